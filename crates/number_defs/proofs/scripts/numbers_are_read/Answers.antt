use Rattle.number_defs.proofs.NumberLaws.{number_laws}
use Rattle.number_defs.proofs.scripts.numbers_are_read.Goals as goal

pub returns : goal.returns
returns c = number_laws
