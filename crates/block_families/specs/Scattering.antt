-- Stretches of a block's 64 numbers that are put back.
use Rattle.std.specs.Prelude.{◌<◌, ◌≤◌, ◌≡◌, ℕ, ◌+◌, ◌/◌, ◌%◌, ◌^◌, ℤ, pos, ◌*ℤ◌, List, All, length, slice_index_or}
use Rattle.base_122.specs.Weights.{IsShift}
use Rattle.wave_defs.specs.Blocks.{Place, weight_at}
use Rattle.block_families.specs.Places.{place_in, AreWeighted}

-- the places of a square of two rows and two columns from this one on, the upper two first
abbrev pub in_square : Place → ℕ → Place
in_square p k = record { band = p.band; row = p.row + k / 2; column = p.column + k % 2 }

-- the numbers of this square are these, and no other number changed
pub record SetsSquare (old new : Place → ℤ) (p : Place) (values : List ℤ) : Type 0 where
  pub there : (k : ℕ) → k < 4 → new (in_square p k) ≡ slice_index_or values k (pos 0)
  pub others : (q : Place) → ((k : ℕ) → k < 4 → q ≡ in_square p k → ⊥) → new q ≡ old q

-- the block in this column of block rows of this number of blocks can have these numbers
pub record CanScatter (weights : List ℕ) (numbers : List ℤ) (columns column : ℕ) : Type 0 where
  pub inside : column < columns
  pub wide : column < 2 ^ 17
  pub shifts : All IsShift weights
  pub whole : length numbers ≡ 64
  pub parts : AreWeighted numbers weights

-- `count` numbers of the block from a position on are in their places without their weights, and no other place changed
pub record PutsBack (weights : List ℕ) (column : ℕ) (numbers : List ℤ) (from count : ℕ) (old new : Place → ℤ) : Type 0 where
  pub block : (i : ℕ) → from ≤ i → i < from + count → new (place_in column i) *ℤ weight_at weights i ≡ slice_index_or numbers i (pos 0)
  pub others : (p : Place) → ((i : ℕ) → from ≤ i → i < from + count → p ≡ place_in column i → ⊥) → new p ≡ old p
