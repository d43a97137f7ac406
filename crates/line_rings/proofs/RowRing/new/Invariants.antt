use Rattle.std.proofs.Common.{◌≡◌, map, replicate}
use Rattle.line_rings.proofs.RowRing.new.Given as goal

abbrev pub invariant-loop : goal.invariant-loop
invariant-loop g l = record {
  room : l.ring.capacity ≡ l.rows;
  filled : map (λ v. v.items) l.ring.items ≡ replicate l.counter (replicate l.width l.zero);
}
