-- What contracts say of planes and of the ten bands.
use Rattle.std.specs.Prelude.{◌≡◌, ℕ, ◌*◌, ℤ, pos, Some, map, vec_len, slice_get, slice_index_or}
use Rattle.wave_plain.specs.declared.Plane.{Plane}
use Rattle.wave_plain.specs.declared.Bands.{Bands}
use Rattle.wave_defs.specs.Level.{Quarters}
use Rattle.wave_defs.specs.Pyramid.{Pyramid}
use Rattle.wave_defs.specs.Blocks.{block_side}
use Rattle.wave_defs.specs.Held.{grid, SameWithin, SamePyramid}

-- the image that a plane holds
abbrev pub image_of : Plane → ℕ → ℕ → ℤ
image_of p = grid p.width p.cells.items

-- the plane has these rows and columns, and a cell for each place
pub record HasSize (rows columns : ℕ) (p : Plane) : Type 0 where
  pub rows_are : p.rows ≡ rows
  pub columns_are : p.width ≡ columns
  pub full : vec_len p.cells ≡ rows * columns

-- and it holds this image
pub record Shows (rows columns : ℕ) (a : ℕ → ℕ → ℤ) (p : Plane) : Type 0 where
  pub size : HasSize rows columns p
  pub cells : SameWithin rows columns (image_of p) a

abbrev pub zeros : ℕ → ℕ → ℤ
zeros i j = pos 0

-- the image of the plane of a band by its number, and zeros if there is no such plane
abbrev pub band_in : Bands → ℕ → ℕ → ℕ → ℤ
band_in b band = slice_index_or (map image_of b.planes.items) band zeros

-- the pyramid that ten planes hold
abbrev pub pyramid_in : Bands → Pyramid
pyramid_in b = record {
  hh1 = band_in b 0;
  hl1 = band_in b 1;
  lh1 = band_in b 2;
  hh2 = band_in b 3;
  hl2 = band_in b 4;
  lh2 = band_in b 5;
  hh3 = band_in b 6;
  hl3 = band_in b 7;
  lh3 = band_in b 8;
  ll3 = band_in b 9;
}

-- ten planes of the bands' sizes, for an image of r block rows of c blocks
pub record IsWhole (r c : ℕ) (b : Bands) : Type 0 where
  pub rows_are : b.rows ≡ 8 * r
  pub columns_are : b.width ≡ 8 * c
  pub ten : vec_len b.planes ≡ 10
  pub sizes : (band : ℕ) (p : Plane) → slice_get b.planes.items band ≡ Some p
      → HasSize (block_side band * r) (block_side band * c) p

-- and they hold this pyramid
pub record ShowsBands (r c : ℕ) (p : Pyramid) (b : Bands) : Type 0 where
  pub whole : IsWhole r c b
  pub bands : SamePyramid r c (pyramid_in b) p

-- the bands of a level that four planes hold
abbrev pub quarters_in : Plane → Plane → Plane → Plane → Quarters
quarters_in ll hl lh hh =
    record { ll = image_of ll; hl = image_of hl; lh = image_of lh; hh = image_of hh }
