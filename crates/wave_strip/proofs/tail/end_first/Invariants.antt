use Rattle.std.proofs.Common.{◌≡◌, ℕ, ◌+◌, ◌*◌, ◌≤◌, ℤ}
use Rattle.wave_strip.specs.Kept.{pairs_in}
use Rattle.wave_strip.specs.Columns.{IsSmall}
use Rattle.wave_strip.specs.Levels.{FollowLevels}
use Rattle.wave_strip.proofs.tail.end_first.Given as goal

abbrev pub invariant-loop-after : goal.invariant-loop-after
invariant-loop-after l = record {
  first_half : l.first.half ≡ l.initial.first.half;
  second_half : l.second.half ≡ l.initial.second.half;
  third_half : l.third.half ≡ l.initial.third.half;
  kept_first : l.first.columns.kept ≡ l.initial.first.columns.kept;
  kept_second : l.second.columns.kept ≡ l.initial.second.columns.kept;
  kept_third : l.third.columns.kept ≡ l.initial.third.columns.kept;
  first_taken : l.first.columns.taken ≡ l.initial.first.columns.taken + l.after;
  second_taken : l.second.columns.taken ≡ pairs_in l.first.columns.taken;
  third_taken : l.third.columns.taken ≡ pairs_in l.second.columns.taken;
  small_first : IsSmall 81920 l.first.columns;
  small_second : IsSmall 512000 l.second.columns;
  small_third : IsSmall 3200000 l.third.columns;
  follows : (x : ℕ → ℕ → ℤ) (n m : ℕ) → 2 ≤ n → l.initial.third.half ≡ m → l.initial.first.columns.taken ≡ 8 * n
      → FollowLevels x n m l.initial.first.columns l.initial.second.columns l.initial.third.columns
      → FollowLevels x n m l.first.columns l.second.columns l.third.columns;
}
