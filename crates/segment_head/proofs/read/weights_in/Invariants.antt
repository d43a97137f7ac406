use Rattle.std.proofs.Common.{◌≡◌, ◌+◌, ◌*◌, ◌<◌, ℕ, get_or}
use Rattle.segment_defs.specs.Fields.{number_in}
use Rattle.segment_head.proofs.read.weights_in.Given as goal

abbrev pub invariant-loop-i : goal.invariant-loop-i
invariant-loop-i l = (k : ℕ) → k < l.i → get_or l.shift-items k 0 ≡ number_in l.fourth (33 + 2 * k) 2
