use Rattle.std.proofs.Common.{◌≡◌, true, ◌^◌}
use Rattle.wave_defs.specs.Within.{AllWithin}
use Rattle.wave_defs.specs.Held.{signal}
use Rattle.inverse_strip.proofs.small.are_small.Given as goal

abbrev pub invariant-loop-value : goal.invariant-loop-value
invariant-loop-value l = (l.small ≡ true → AllWithin (2 ^ 27) l.value-index (signal l.row)) × (AllWithin (2 ^ 27) l.value-index (signal l.row) → l.small ≡ true)
