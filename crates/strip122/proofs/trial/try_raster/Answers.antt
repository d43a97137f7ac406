use Rattle.strip122.proofs.TrialsDone.{has_encoded, raster_tried}
use Rattle.strip122.proofs.trial.try_raster.Goals as goal

pub count_decoded-requires-clause-raster : goal.count_decoded-requires-clause-raster
count_decoded-requires-clause-raster c = (has_encoded c.args.setting.now c.args.raster.now c.given.result.now _ _ c.in_ok-port.port _ c.in_ok-done.done
    c.requires.height c.in_ok-port.ensures c.in_ok-done.ensures c.given.ensures).whole

pub count_decoded-requires-clause-packets : goal.count_decoded-requires-clause-packets
count_decoded-requires-clause-packets c = (has_encoded c.args.setting.now c.args.raster.now c.given.result.now _ _ c.in_ok-port.port _ c.in_ok-done.done
    c.requires.height c.in_ok-port.ensures c.in_ok-done.ensures c.given.ensures).gave

pub returns : goal.returns
returns c =
    raster_tried c.args.setting.now c.args.raster.now c.given.result.now c.in_ok-done.done c.in_ok-equal.equal
    (has_encoded c.args.setting.now c.args.raster.now c.given.result.now _ _ c.in_ok-port.port _ c.in_ok-done.done c.requires.height c.in_ok-port.ensures
    c.in_ok-done.ensures c.given.ensures) c.in_ok-equal.ensures
