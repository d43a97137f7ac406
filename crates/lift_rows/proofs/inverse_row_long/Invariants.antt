use Rattle.std.proofs.Common.{length}
use Rattle.lift_rows.specs.Back.{IsValid}
use Rattle.lift_rows.proofs.inverse_row_long.Given as goal

abbrev pub invariant-evens : goal.invariant-evens
invariant-evens l = IsValid l.j 0 l.low l.high l.row

abbrev pub invariant-odds : goal.invariant-odds
invariant-odds l = IsValid (length l.low) l.j l.low l.high l.row
