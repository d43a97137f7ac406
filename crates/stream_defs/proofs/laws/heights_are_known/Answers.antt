use Rattle.std.proofs.Common.{ne_eqb, arith}
use Rattle.stream_defs.proofs.laws.heights_are_known.Goals as goal
use Rattle.std.proofs.lemmas.Grind.{common_steps}

pub returns : goal.returns
returns c = grind (arith, common_steps, ne_eqb)
