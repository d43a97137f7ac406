use Rattle.std.proofs.Common.{◌≡◌, replicate}
use Rattle.line_rings.proofs.row_of.Given as goal

abbrev pub invariant-loop : goal.invariant-loop
invariant-loop g l = l.row.items ≡ replicate l.counter l.zero
