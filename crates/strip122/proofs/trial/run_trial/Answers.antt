use Rattle.std.proofs.Common.{rules}
use Rattle.strip122.proofs.TrialsDone.{made_tried}
use Rattle.strip122.proofs.trial.run_trial.Goals as goal

pub returns : goal.returns
returns c = made_tried c.args.setting.now c.args.seed c.given.result.now c.try_raster.result c.requires.range c.requires.height (search rules)
    c.try_raster.ensures
