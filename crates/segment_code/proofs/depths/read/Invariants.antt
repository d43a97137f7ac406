use Rattle.std.proofs.Common.{ℕ, ◌<◌, pos, get_or, w32, FitsSigned}
use Rattle.segment_code.proofs.depths.read.Given as goal

abbrev pub invariant-loop-k : goal.invariant-loop-k
invariant-loop-k l = (j : ℕ) → j < l.k → FitsSigned w32 (get_or l.block j (pos 0))
