-- The 64 numbers of a block. Blocks, families, and which numbers a block has are those of CCSDS
-- 122.0-B-2; the order of the numbers and the numbers of the bands are this project's own.
use Rattle.std.specs.Prelude.{ℕ, ◌<◌, ◌+◌, ◌-◌, ◌*◌, ◌/◌, ◌%◌, ◌^◌, ℤ, pos, ◌*ℤ◌, List, map, slice_index, if◌then◌else◌, nat_lt, ◌==◌}
use Rattle.std.specs.List.{range_with_len}
use Rattle.wave_defs.specs.Pyramid.{Pyramid, band_of}

-- a band by its number, and a row and a column of it within one block
pub record Place : Type 0 where
  pub band : ℕ
  pub row : ℕ
  pub column : ℕ

-- the band of family 0, 1 or 2, which are HL, LH and HH, at level 1, 2 or 3
abbrev pub family_band : ℕ → ℕ → ℕ
family_band level family = 3 * (level - 1) + (family + 1) % 3

-- the rows, and the columns, that a band has in one block
abbrev pub block_side : ℕ → ℕ
block_side band = if nat_lt band 3 then 4 else (if nat_lt band 6 then 2 else 1)

-- child j = 2 * a + b of a family, at row a and column b
abbrev pub child_place : ℕ → ℕ → Place
child_place family j = record { band = family_band 2 family; row = j / 2; column = j % 2 }

-- grandchild k = 2 * c + d below child j = 2 * a + b, at row 2 * a + c and column 2 * b + d
abbrev pub grandchild_place : ℕ → ℕ → ℕ → Place
grandchild_place family j k = record {
  band = family_band 1 family;
  row = 2 * (j / 2) + k / 2;
  column = 2 * (j % 2) + k % 2;
}

-- The place of a position: the DC number, the parents of the three families, then the four children
-- of each, then the four grandchildren below each child.
unfoldable pub place_of : ℕ → Place
place_of i =
    if i == 0 then record { band = 9; row = 0; column = 0 } else
    (if nat_lt i 4 then record { band = family_band 3 (i - 1); row = 0; column = 0 } else
    (if nat_lt i 16 then child_place ((i - 4) / 4) (i % 4) else
    grandchild_place ((i - 16) / 16) (i % 16 / 4) (i % 4)))

-- a place within one block
pub record IsPlace (p : Place) : Type 0 where
  pub band : p.band < 10
  pub row : p.row < block_side p.band
  pub column : p.column < block_side p.band

-- the number at a position of the block in block row r and block column s, before its weight
unfoldable pub coefficient : Pyramid → ℕ → ℕ → ℕ → ℤ
coefficient p r s i =
    let place = place_of i in
    let side = block_side place.band in
    band_of p place.band (side * r + place.row) (side * s + place.column)

-- a band's weight multiplies by a power of two
abbrev pub weight_at : List ℕ → ℕ → ℤ
weight_at weights i = pos (2 ^ slice_index weights (place_of i).band)

unfoldable pub block : Pyramid → List ℕ → ℕ → ℕ → List ℤ
block p weights r s = map (λ i. coefficient p r s i *ℤ weight_at weights i) (range_with_len 0 64)

-- the blocks of r block rows of c blocks in raster order
unfoldable pub blocks : Pyramid → List ℕ → ℕ → ℕ → List (List ℤ)
blocks p weights r c = map (λ b. block p weights (b / c) (b % c)) (range_with_len 0 (r * c))
