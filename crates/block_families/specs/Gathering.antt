-- Stretches of a block's 64 numbers.
use Rattle.std.specs.Prelude.{◌<◌, ◌≤◌, ◌≡◌, ℕ, ◌+◌, ◌*◌, ◌%◌, ◌^◌, ℤ, pos, ◌*ℤ◌, List, All, length, nat_lt, if◌then◌else◌, slice_index_or, unsigned_abs}
use Rattle.base_122.specs.Weights.{IsShift}
use Rattle.wave_defs.specs.Blocks.{Place, weight_at}
use Rattle.block_families.specs.Places.{place_in}

-- the number at a position of the block in this column, times its weight
abbrev pub weighted_at : (Place → ℤ) → List ℕ → ℕ → ℕ → ℤ
weighted_at number weights column i = number (place_in column i) *ℤ weight_at weights i

-- the number at a position of the k-th block from this column on, times its weight
abbrev pub run_at : (Place → ℤ) → List ℕ → ℕ → ℕ → ℕ → ℤ
run_at number weights column k = weighted_at number weights (column + k)

-- the first n blocks from this column on can be gathered from block rows of this number of blocks
pub record CanGather (number : Place → ℤ) (weights : List ℕ) (columns column n : ℕ) : Type 0 where
  pub inside : column + n ≤ columns
  pub wide : column + n ≤ 2 ^ 17
  pub shifts : All IsShift weights
  pub fits : (k i : ℕ) → k < n → i < 64 → unsigned_abs (run_at number weights column k i) < 2 ^ 31

-- this number of places of a list from one on have these values, and no other place changed
pub record Fills (value : ℕ → ℤ) (from count : ℕ) (old new : List ℤ) : Type 0 where
  pub whole : length new ≡ length old
  pub there : (i : ℕ) → from ≤ i → i < from + count → slice_index_or new i (pos 0) ≡ value i
  pub others : (i : ℕ) → (from ≤ i → i < from + count → ⊥) → slice_index_or new i (pos 0) ≡ slice_index_or old i (pos 0)

-- these places of each of the first n blocks of 64 numbers have these values, and no other place changed
pub record FillsEach (value : ℕ → ℕ → ℤ) (from count n : ℕ) (old new : List ℤ) : Type 0 where
  pub whole : length new ≡ length old
  pub there : (k i : ℕ) → k < n → from ≤ i → i < from + count → slice_index_or new (64 * k + i) (pos 0) ≡ value k i
  pub others : (j : ℕ) → ((k : ℕ) → k < n → 64 * k + from ≤ j → j < 64 * k + from + count → ⊥) → slice_index_or new j (pos 0) ≡ slice_index_or old j (pos 0)

-- the four numbers that two rows have in two columns from one on, the upper two first
abbrev pub square : List ℤ → List ℤ → ℕ → ℕ → ℤ
square upper lower start k = slice_index_or (if nat_lt k 2 then upper else lower) (start + k % 2) (pos 0)
