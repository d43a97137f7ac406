use Rattle.std.proofs.Common.{arith}
use Rattle.std.proofs.lemmas.Nat.{one_shl}
use Rattle.number_defs.proofs.Heights.{complement_is}
use Rattle.gaggle_codes.proofs.numbers.Numbers.reference.Goals as goal
use Rattle.std.proofs.lemmas.Grind.{common_steps}

pub returns : goal.returns
returns c = grind (arith, common_steps, one_shl, complement_is)
