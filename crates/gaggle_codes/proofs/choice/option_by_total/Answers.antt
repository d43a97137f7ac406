use Rattle.std.proofs.Common.{arith}
use Rattle.std.proofs.lemmas.Nat.{one_shl}
use Rattle.gaggle_codes.proofs.Choosing.{suits_less, suits_here, suits_none, takes_k}
use Rattle.gaggle_codes.proofs.choice.option_by_total.Goals as goal
use Rattle.std.proofs.lemmas.Grind.{common_steps}

pub loop-k-preserved : goal.loop-k-preserved
loop-k-preserved c = grind (arith, common_steps, one_shl, suits_less)

pub returns-else-count-k : goal.returns-else-count-k
returns-else-count-k c = grind (arith, common_steps, one_shl, takes_k, suits_here)

pub returns-after-loop-k : goal.returns-after-loop-k
returns-after-loop-k c = grind (arith, common_steps, one_shl, takes_k, suits_none)
