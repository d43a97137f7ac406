use Rattle.plane_defs.proofs.NumbersGiven.{numbers_are_given}
use Rattle.plane_defs.proofs.scripts.numbers_are_given.Goals as goal

pub returns : goal.returns
returns c = numbers_are_given
