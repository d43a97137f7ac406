use Rattle.std.proofs.Common.{◌*◌}
use Rattle.wave_defs.specs.Level.{rows_merged}
use Rattle.wave_defs.specs.Held.{grid, SameWithin}
use Rattle.wave_plain.proofs.rows.join_rows.Given as goal

abbrev pub invariant-loop-i : goal.invariant-loop-i
invariant-loop-i l = SameWithin l.i (2 * l.n) (grid (2 * l.n) l.into) (rows_merged (grid l.n l.low) (grid l.n l.high) l.n)
