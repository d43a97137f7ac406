-- The numbers of a block row of bands over a whole array.
use Rattle.std.proofs.Common.{◌≡◌, ℕ, zero, suc, ◌+◌, ◌*◌, ◌/◌, ◌<◌, ◌≤◌, ℤ, refl, sym, ap, ◌∙◌, arith, vec_len, Some, slice_get, map, option_map}
use Rattle.std.proofs.lemmas.Option.{get_or_from_slice_get, slice_get-map}
use Rattle.std.proofs.lemmas.Int.{ints}
use Rattle.std.proofs.lemmas.Nat.{rows}
use Rattle.std.proofs.lemmas.Bool.Decides.{nat_tests}
use Rattle.wave_defs.specs.Pyramid.{band_of}
use Rattle.wave_defs.specs.Within.{IsWithin}
use Rattle.wave_defs.specs.Blocks.{Place, block_side}
use Rattle.wave_defs.proofs.BlockLaws.{band_of-within}
use Rattle.block_families.specs.Places as places
use Rattle.wave_plain.specs.declared.Bands.{Bands}
use Rattle.wave_plain.specs.declared.Plane.{Plane}
use Rattle.wave_plain.specs.Images.{image_of, band_in, pyramid_in, zeros}
use Rattle.wave_plain.specs.BlockRows.{number_in, IsBlockRow}

-- a band of the pyramid that ten planes hold is that plane's
pyramid_band : (b : Bands) (band i j : ℕ) → band < 10 → band_of (pyramid_in b) band i j ≡ band_in b band i j
pyramid_band b zero i j h = refl
pyramid_band b (suc zero) i j h = refl
pyramid_band b (suc (suc zero)) i j h = refl
pyramid_band b (suc (suc (suc zero))) i j h = refl
pyramid_band b (suc (suc (suc (suc zero)))) i j h = refl
pyramid_band b (suc (suc (suc (suc (suc zero))))) i j h = refl
pyramid_band b (suc (suc (suc (suc (suc (suc zero)))))) i j h = refl
pyramid_band b (suc (suc (suc (suc (suc (suc (suc zero))))))) i j h = refl
pyramid_band b (suc (suc (suc (suc (suc (suc (suc (suc zero)))))))) i j h = refl
pyramid_band b (suc (suc (suc (suc (suc (suc (suc (suc (suc zero))))))))) i j h = refl
pyramid_band b (suc (suc (suc (suc (suc (suc (suc (suc (suc (suc band)))))))))) i j h = absurd (omega arith)

-- the plane of a band holds it
plane_shows : (b : Bands) (band : ℕ) (p : Plane) → slice_get b.planes.items band ≡ Some p → band_in b band ≡ image_of p
plane_shows b band p e =
    get_or_from_slice_get (map image_of b.planes.items) band (image_of p) zeros (slice_get-map image_of b.planes.items band ∙ ap (option_map image_of) e)

-- a place of a block row is in its band
place_row : (b : Bands) (row : ℕ) (p : Place) → IsBlockRow b row → places.IsWithin (b.width / 8) p →
    block_side p.band * row + p.row < block_side p.band * (b.rows / 8)
place_row b row p is in_row = grind (arith, nat_tests, rows)

pub number_is : (b : Bands) (row : ℕ) (p : Place) (plane : Plane) → IsBlockRow b row → places.IsWithin (b.width / 8) p →
    slice_get b.planes.items p.band ≡ Some plane →
    image_of plane (block_side p.band * row + p.row) p.column ≡ number_in b row p
number_is b row p plane is in_row e =
    sym (pyramid_band b p.band (block_side p.band * row + p.row) p.column in_row.band
    ∙ ap (λ (f : ℕ → ℕ → ℤ). f (block_side p.band * row + p.row) p.column) (plane_shows b p.band plane e))

pub cell_within : (b : Bands) (row : ℕ) (p : Place) (plane : Plane) → IsBlockRow b row → places.IsWithin (b.width / 8) p →
    slice_get b.planes.items p.band ≡ Some plane →
    (block_side p.band * row + p.row) * plane.width + p.column < vec_len plane.cells
cell_within b row p plane is in_row e =
    let size = is.whole.sizes p.band plane e in
    let inside = place_row b row p is in_row in
    let column : p.column < plane.width = omega (arith, size.columns_are, in_row.column) in
    let full : vec_len plane.cells ≡ (block_side p.band * (b.rows / 8)) * plane.width =
    size.full ∙ ap (λ w. (block_side p.band * (b.rows / 8)) * w) (sym size.columns_are) in
    rw full (in_rows (block_side p.band * row + p.row) (block_side p.band * (b.rows / 8)) plane.width p.column inside column)
  where
    in_rows : (i r w j : ℕ) → i < r → j < w → i * w + j < r * w
    in_rows i r w j hi hj = grind (arith, rows)

pub number_small : (b : Bands) (row : ℕ) (p : Place) → IsBlockRow b row → places.IsWithin (b.width / 8) p → IsWithin 16000000 (number_in b row p)
number_small b row p is in_row =
    let each = band_of-within _ _ _ (b.rows / 8) (b.width / 8) (pyramid_in b) (omega arith) (omega arith) is.small p.band in_row.band in
    each.at (block_side p.band * row + p.row) p.column (place_row b row p is in_row) in_row.column

pub within_more : {a b : ℕ} {z : ℤ} → a ≤ b → IsWithin a z → IsWithin b z
within_more {a} {b} {z} le h = record { above = omega (arith, ints, h.above); below = omega (arith, ints, h.below) }
