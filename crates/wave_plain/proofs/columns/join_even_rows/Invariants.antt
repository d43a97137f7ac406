use Rattle.wave_defs.specs.Lifted.{columns_even}
use Rattle.wave_defs.specs.Held.{grid, SameWithin}
use Rattle.wave_defs.specs.Rings.{even_rows}
use Rattle.wave_plain.proofs.columns.join_even_rows.Given as goal

abbrev pub invariant-loop-i : goal.invariant-loop-i
invariant-loop-i l =
    SameWithin l.i l.halves.width (even_rows (grid l.halves.width l.into))
    (columns_even (grid l.halves.width l.halves.low.now) (grid l.halves.width l.halves.high.now))
