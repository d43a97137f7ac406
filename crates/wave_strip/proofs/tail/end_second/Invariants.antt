use Rattle.std.proofs.Common.{◌≡◌, ℕ, ◌+◌, ◌*◌, ◌≤◌, ℤ}
use Rattle.wave_strip.specs.Kept.{pairs_in}
use Rattle.wave_strip.specs.Columns.{IsSmall}
use Rattle.wave_strip.specs.Levels.{FollowTwo}
use Rattle.wave_strip.proofs.tail.end_second.Given as goal

abbrev pub invariant-loop-after : goal.invariant-loop-after
invariant-loop-after l = record {
  second_half : l.second.half ≡ l.initial.second.half;
  third_half : l.third.half ≡ l.initial.third.half;
  kept_second : l.second.columns.kept ≡ l.initial.second.columns.kept;
  kept_third : l.third.columns.kept ≡ l.initial.third.columns.kept;
  second_taken : l.second.columns.taken ≡ l.initial.second.columns.taken + l.after;
  third_taken : l.third.columns.taken ≡ pairs_in l.second.columns.taken;
  small_second : IsSmall 512000 l.second.columns;
  small_third : IsSmall 3200000 l.third.columns;
  follows : (x : ℕ → ℕ → ℤ) (n m : ℕ) → 2 ≤ n → l.initial.third.half ≡ m → l.initial.second.columns.taken ≡ 4 * n
      → FollowTwo x n m l.initial.second.columns l.initial.third.columns
      → FollowTwo x n m l.second.columns l.third.columns;
}
