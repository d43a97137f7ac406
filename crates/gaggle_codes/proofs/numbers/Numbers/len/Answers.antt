use Rattle.std.proofs.Common.{arith}
use Rattle.number_defs.proofs.CellPlaces.{made_length}
use Rattle.gaggle_codes.proofs.numbers.Numbers.len.Goals as goal
use Rattle.std.proofs.lemmas.Grind.{common_steps}

pub returns : goal.returns
returns c = grind (arith, common_steps, made_length)
