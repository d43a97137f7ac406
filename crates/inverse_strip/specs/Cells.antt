-- How the numbers of one block row are in rows: band after band in the order of the bands' numbers, each row after row.
use Rattle.std.specs.Prelude.{◌≡◌, ◌<◌, ℕ, ◌+◌, ◌*◌, ◌^◌, ℤ, pos, Bool, List, [], nat_lt, ◌&&◌, if◌then◌else◌, slice_index_or, length, map, ◌++◌, replicate}
use Rattle.wave_defs.specs.Blocks.{Place, block_side}
use Rattle.wave_defs.specs.Held.{signal}
use Rattle.wave_defs.specs.Within.{AllWithin}

-- the rows before those of this band
abbrev pub first_row : ℕ → ℕ
first_row band = if nat_lt band 3 then 4 * band else (if nat_lt band 6 then 6 + 2 * band else 12 + band)

abbrev pub row_place : (band row : ℕ) → ℕ
row_place band row = first_row band + row

-- how many numbers each row has
abbrev pub row_widths : (columns : ℕ) → List ℕ
row_widths columns = replicate 12 (4 * columns) ++ (replicate 6 (2 * columns) ++ replicate 4 columns)

-- the place is within a block row of this number of blocks
unfoldable pub is_place_in : (columns : ℕ) → Place → Bool
is_place_in columns p =
    nat_lt p.band 10 && nat_lt p.row (block_side p.band) && nat_lt p.column (block_side p.band * columns)

-- the number at a place of a row
abbrev pub number_at : List (List ℤ) → Place → ℤ
number_at rows p = signal (slice_index_or rows (row_place p.band p.row) []) p.column

-- the number at a place, and 0 outside the block row
unfoldable pub number_in : (columns : ℕ) → List (List ℤ) → Place → ℤ
number_in columns rows p = if is_place_in columns p then number_at rows p else pos 0

-- rows of these widths, of numbers within 2 ^ 27
pub record AreBandRows (columns : ℕ) (rows : List (List ℤ)) : Type 0 where
  pub widths : map length rows ≡ row_widths columns
  pub small : (i : ℕ) → i < length rows → AllWithin (2 ^ 27) (length (slice_index_or rows i [])) (signal (slice_index_or rows i []))

-- the rows of a band that are numbered from first on are those of this block row
pub record HasBlockRow (f : ℕ → ℕ → ℤ) (band first columns : ℕ) (rows : List (List ℤ)) : Type 0 where
  pub at : (y j : ℕ) → y < block_side band → j < block_side band * columns
      → f (first + y) j ≡ number_in columns rows (record { band = band; row = y; column = j })
