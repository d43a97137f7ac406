use Rattle.std.proofs.Common.{◌*◌}
use Rattle.wave_defs.specs.Level.{rows_low, rows_high}
use Rattle.wave_defs.specs.Held.{grid, SameWithin}
use Rattle.wave_plain.proofs.rows.split_rows.Given as goal

abbrev pub invariant-loop-i : goal.invariant-loop-i
invariant-loop-i l = record {
  low : SameWithin l.i l.n (grid l.n l.low) (rows_low (grid (2 * l.n) l.cells) l.n);
  high : SameWithin l.i l.n (grid l.n l.high) (rows_high (grid (2 * l.n) l.cells) l.n);
}
