-- What a picture holds, and which blocks it represents. This project's own.
use Rattle.std.specs.Prelude.{◌≡◌, ◌≤◌, ◌<◌, ◌+◌, ◌-◌, ◌*◌, ℕ, ℤ, pos}
use Rattle.base_122.specs.Sizes.{block_count, total_blocks}
use Rattle.base_122.specs.Ranges.{IsGeometryInRange}
use Rattle.base_122.specs.declared.geometry.Geometry.{Geometry}
use Rattle.wave_defs.specs.Blocks.{coefficient}
use Rattle.block_families.specs.Places.{place_in}
use Rattle.inverse_strip.specs.Kept.{IsCompletion}
use Rattle.inverse_strip.specs.Samples.{strip_samples}
use Rattle.inverse_strip.specs.Strip.{columns_of, height_of, taken_of, next_of, numbers_of, FollowStrip}
use Rattle.inverse_strip.specs.declared.strip.StripInverse.{StripInverse}
use Rattle.picture_rows.specs.declared.picture.Picture.{Picture}
use Rattle.picture_rows.specs.declared.picture.PictureAt.{PictureAt}
use Rattle.picture_rows.specs.Prefixes.{bands_of}

-- its parts
pub record PictureState : Type 0 where
  pub geometry : Geometry
  pub at : PictureAt
  pub strip : StripInverse

abbrev pub picture_state : Picture → PictureState
picture_state p = record { geometry = p.geometry; at = p.at; strip = p.strip }

-- the samples of all its lists
abbrev pub samples_of : PictureState → ℕ
samples_of p = strip_samples p.strip

-- the blocks of its geometry, and those before the next one
abbrev pub total_in : PictureState → ℕ
total_in p = total_blocks p.geometry.width p.geometry.rows

abbrev pub passed_in : PictureState → ℕ
passed_in p = p.at.row * block_count p.geometry.width + p.at.column

-- a block is left
abbrev pub HasRoom : PictureState → Type 0
HasRoom p = passed_in p < total_in p

-- Its parts are those of its geometry, and are at the place that it has reached. Until all block rows were taken, at most the rows
-- were made that the block rows so far determine.
pub record IsSized (p : PictureState) : Type 0 where
  pub range : IsGeometryInRange p.geometry
  pub columns : columns_of p.strip ≡ block_count p.geometry.width
  pub height : height_of p.strip ≡ block_count p.geometry.rows
  pub taken : taken_of p.strip ≡ p.at.row
  pub next : next_of p.strip ≡ p.at.next
  pub rows : p.at.row ≤ block_count p.geometry.rows
  pub column : p.at.column < block_count p.geometry.width
  pub none : p.at.row ≡ block_count p.geometry.rows → p.at.column ≡ 0
  pub next_most : p.at.row < block_count p.geometry.rows → p.at.next ≤ 8 * p.at.row - 21

-- Exactly the rows were made that the r block rows so far determine: the first 8 * r - 21, or all if these are all block rows.
pub record IsPictureCurrent (p : PictureState) : Type 0 where
  pub sized : IsSized p
  pub next_settled : p.at.row < block_count p.geometry.rows → p.at.next ≡ 8 * p.at.row - 21
  pub all_made : p.at.row ≡ block_count p.geometry.rows → p.at.next ≡ 8 * p.at.row

-- ---- for which blocks

-- Blocks with these numbers, counted in raster order, whatever the later ones are: the strip took the whole block rows of them, of an image
-- of any height that it may still have, and the next block row has the numbers of the blocks in its first columns, and otherwise zeros.
pub record RepresentsTo (columns : ℕ) (numbers : ℕ → ℕ → ℤ) (p : PictureState) : Type 0 where
  pub strip : (r : ℕ) → IsCompletion (taken_of p.strip) (height_of p.strip) r → FollowStrip (bands_of p.geometry numbers) r p.strip
  pub set : (column i : ℕ) → column < columns → i < 64 →
      numbers_of p.strip (place_in column i) ≡ coefficient (bands_of p.geometry numbers) p.at.row column i
  pub unset : (column i : ℕ) → columns ≤ column → column < block_count p.geometry.width → i < 64 →
      numbers_of p.strip (place_in column i) ≡ pos 0

-- those are the blocks before the next one
abbrev pub Represents : (ℕ → ℕ → ℤ) → PictureState → Type 0
Represents numbers p = RepresentsTo p.at.column numbers p

-- no block was taken yet of a picture of this geometry
pub record IsPictureFresh (g : Geometry) (p : PictureState) : Type 0 where
  pub geometry : p.geometry ≡ g
  pub current : IsPictureCurrent p
  pub row : p.at.row ≡ 0
  pub column : p.at.column ≡ 0
  pub next : p.at.next ≡ 0
  pub valid : (numbers : ℕ → ℕ → ℤ) → Represents numbers p
