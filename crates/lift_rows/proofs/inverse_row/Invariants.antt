use Rattle.std.proofs.Common.{◌+◌}
use Rattle.lift_rows.specs.Back.{IsValid}
use Rattle.lift_rows.proofs.inverse_row.Given as goal

abbrev pub invariant-pairs : goal.invariant-pairs
invariant-pairs l = IsValid (l.j + 2) l.j l.low l.high l.row
