use Rattle.std.proofs.Common.{◌≡◌, ℕ, ◌+◌, ◌*◌, ◌≤◌, ℤ}
use Rattle.wave_defs.specs.Rolling.{mirrored}
use Rattle.wave_strip.specs.Columns.{Follow, IsSmall}
use Rattle.wave_strip.proofs.tail.end_third.Given as goal

abbrev pub invariant-loop-after : goal.invariant-loop-after
invariant-loop-after l = record {
  half : l.third.half ≡ l.initial.third.half;
  kept : l.third.columns.kept ≡ l.initial.third.columns.kept;
  taken : l.third.columns.taken ≡ l.initial.third.columns.taken + l.after;
  small : IsSmall 3200000 l.third.columns;
  follows : (a : ℕ → ℕ → ℤ) (n : ℕ) → 2 ≤ n → l.initial.third.columns.taken ≡ 2 * n
      → Follow (mirrored a n) l.initial.third.columns → Follow (mirrored a n) l.third.columns;
}
