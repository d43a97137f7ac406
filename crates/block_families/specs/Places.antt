-- Places of a block row in the bands. (The numbers of a block are those of CCSDS 122.0-B-2, section 4.1.)
use Rattle.std.specs.Prelude.{◌<◌, ◌≤◌, ◌≡◌, ℕ, ◌+◌, ◌*◌, ◌^◌, ℤ, pos, ◌*ℤ◌, List, map, slice_index_or, unsigned_abs}
use Rattle.std.specs.List.{range_with_len}
use Rattle.base_122.specs.Weights.{band_place}
use Rattle.wave_defs.specs.Blocks.{Place, place_of, block_side, weight_at}
use Rattle.block_families.specs.declared.place.Place as code

-- a place by the number of its band
abbrev pub named : code.Place → Place
named p = record { band = band_place p.band; row = p.row; column = p.column }

-- the place of the number at a position of the block in this column, in its block row
abbrev pub place_in : ℕ → ℕ → Place
place_in column i =
    let p = place_of i in record { band = p.band; row = p.row; column = block_side p.band * column + p.column }

-- a place of a block row of this number of blocks
pub record IsWithin (columns : ℕ) (p : Place) : Type 0 where
  pub band : p.band < 10
  pub row : p.row < block_side p.band
  pub column : p.column < block_side p.band * columns

-- the 64 numbers of the block in this column, each times its weight
abbrev pub gathered : (Place → ℤ) → List ℕ → ℕ → List ℤ
gathered number weights column = map (λ i. number (place_in column i) *ℤ weight_at weights i) (range_with_len 0 64)

-- the numbers of a block are multiples of their weights, by at most 2 ^ 27 in magnitude
pub record AreWeighted (numbers : List ℤ) (weights : List ℕ) : Type 0 where
  pub part : ℕ → ℤ
  pub whole : (i : ℕ) → i < 64 → slice_index_or numbers i (pos 0) ≡ part i *ℤ weight_at weights i
  pub small : (i : ℕ) → i < 64 → unsigned_abs (part i) ≤ 2 ^ 27

-- the 64 places of one block have the numbers that give these with their weights, and no other place changed
pub record Scatters (old new : Place → ℤ) (weights : List ℕ) (column : ℕ) (numbers : List ℤ) : Type 0 where
  pub block : (i : ℕ) → i < 64 → new (place_in column i) *ℤ weight_at weights i ≡ slice_index_or numbers i (pos 0)
  pub others : (p : Place) → ((i : ℕ) → i < 64 → p ≡ place_in column i → ⊥) → new p ≡ old p
