use Rattle.std.proofs.Common.{◌≡◌, ℕ, ◌<◌, true, pos}
use Rattle.wave_defs.specs.Held.{signal}
use Rattle.inverse_strip.proofs.zeros.is_zero.Given as goal

abbrev pub invariant-loop-value : goal.invariant-loop-value
invariant-loop-value l = l.zero ≡ true → (k : ℕ) → k < l.value-index → signal l.row k ≡ pos 0
