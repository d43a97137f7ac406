use Rattle.std.proofs.Common.{◌≡◌, pos, map, ◌++◌, replicate}
use Rattle.line_rings.proofs.RowTable.add.Given as goal

abbrev pub invariant-loop : goal.invariant-loop
invariant-loop l = record {
  rows : map (λ v. v.items) l.self-inside.rows.items
      ≡ map (λ v. v.items) l.initial.self-inside.rows.items ++ replicate l.counter (replicate l.width (pos 0));
}
