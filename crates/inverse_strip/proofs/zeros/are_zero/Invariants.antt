use Rattle.std.proofs.Common.{◌≡◌, ℕ, ◌<◌, pos, get_or, []}
use Rattle.wave_defs.specs.Held.{signal}
use Rattle.inverse_strip.proofs.zeros.are_zero.Given as goal

abbrev pub invariant-loop-i : goal.invariant-loop-i
invariant-loop-i l = (t k : ℕ) → t < l.i → signal (get_or l.ring t []) k ≡ pos 0
