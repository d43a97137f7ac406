use Rattle.wave_defs.specs.Lifted.{columns_odd}
use Rattle.wave_defs.specs.Held.{grid, SameWithin}
use Rattle.wave_defs.specs.Rings.{even_rows, odd_rows}
use Rattle.wave_plain.proofs.columns.join_odd_rows.Given as goal

abbrev pub invariant-loop-i : goal.invariant-loop-i
invariant-loop-i l = record {
  even : SameWithin l.halves.count l.halves.width (even_rows (grid l.halves.width l.into)) (even_rows (grid l.halves.width l.fn.into));
  odd : SameWithin l.i l.halves.width (odd_rows (grid l.halves.width l.into))
      (columns_odd (even_rows (grid l.halves.width l.fn.into)) (grid l.halves.width l.halves.high.now) l.halves.count);
}
