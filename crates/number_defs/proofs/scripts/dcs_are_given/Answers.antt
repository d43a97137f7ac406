use Rattle.number_defs.proofs.DcsGiven.{dcs_are_given}
use Rattle.number_defs.proofs.scripts.dcs_are_given.Goals as goal

pub returns : goal.returns
returns c = dcs_are_given
