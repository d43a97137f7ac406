use Rattle.std.proofs.Common.{◌≡◌, ℕ, ◌<◌, pos, [], length, map, get_or}
use Rattle.line_rings.proofs.RowTable.clear.Given as goal

abbrev pub invariant-loop-i : goal.invariant-loop-i
invariant-loop-i l = record {
  long : length l.self-inside.rows.items ≡ l.i-end;
  wide : map length (map (λ v. v.items) l.self-inside.rows.items)
      ≡ map length (map (λ v. v.items) l.initial.self-inside.rows.items);
  zero : (i k : ℕ) → i < l.i → get_or (get_or (map (λ v. v.items) l.self-inside.rows.items) i []) k (pos 0) ≡ pos 0;
}
