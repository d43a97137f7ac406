use Rattle.wave_defs.specs.Level.{columns_low, columns_high}
use Rattle.wave_defs.specs.Held.{grid, SameWithin}
use Rattle.wave_plain.proofs.columns.split_columns.Given as goal

abbrev pub invariant-highs : goal.invariant-highs
invariant-highs l = SameWithin l.i l.w (grid l.w l.high) (columns_high (grid l.w l.cells) l.n)

abbrev pub invariant-lows : goal.invariant-lows
invariant-lows l = SameWithin l.i l.w (grid l.w l.low) (columns_low (grid l.w l.cells) l.n)
