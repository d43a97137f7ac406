-- The first rows of a picture, whatever the height, and how the blocks that aren't received change them.
use Rattle.std.proofs.Common.{◌≡◌, ◌≤◌, ◌<◌, ◌+◌, ◌-◌, ◌*◌, ℕ, zero, suc, ℤ, List, map, refl, arith, Option}
use Rattle.std.specs.List.{range_with_len, flat_map}
use Rattle.std.proofs.lemmas.Bool.Decides.{nat_tests}
use Rattle.base_122.specs.Sizes.{block_count}
use Rattle.base_122.specs.declared.geometry.Geometry.{Geometry}
use Rattle.raster_rows.specs.Pixels.{raster_octets, pixel_octets}
use Rattle.wave_defs.proofs.ReachLaws.{rising-reach}
use Rattle.stream_defs.specs.Begun.{band_rows, placed, placed_rows}
use Rattle.stream_defs.specs.Picture.{number_at, picture_of, picture_with, whole_with}
use Rattle.stream_defs.proofs.PlacedLaws.{is_open}

-- ---- octets

row_same : (a b : ℕ → ℤ) (width from : ℕ) → ((j : ℕ) → from ≤ j → j < from + width → a j ≡ b j) →
    map a (range_with_len from width) ≡ map b (range_with_len from width)
row_same a b zero from same = refl
row_same a b (suc n) from same = grind (arith, nat_tests, row_same a b n (from + 1) (λ j low high. same j (omega (arith, low)) (omega (arith, high))))

rows_same : (depth width : ℕ) (a b : ℕ → ℕ → ℤ) (rows from : ℕ) → ((i j : ℕ) → from ≤ i → i < from + rows → j < width → a i j ≡ b i j) →
    flat_map (λ row. pixel_octets depth (map (a row) (range_with_len 0 width))) (range_with_len from rows)
    ≡ flat_map (λ row. pixel_octets depth (map (b row) (range_with_len 0 width))) (range_with_len from rows)
rows_same depth width a b zero from same = refl
rows_same depth width a b (suc n) from same = grind (
  arith,
  nat_tests,
  row_same,
  rows_same depth width a b n (from + 1)
      (λ i j low high lt. same i j (omega (arith, low)) (omega (arith, high)) lt),
)

-- images whose first rows are the same have the same octets of them
pub raster_same : (depth rows width : ℕ) (a b : ℕ → ℕ → ℤ) → ((i j : ℕ) → i < rows → j < width → a i j ≡ b i j) →
    raster_octets depth rows width a ≡ raster_octets depth rows width b
raster_same depth rows width a b same = rows_same depth width a b rows 0 (λ i j low high lt. same i j (omega (arith, high)) lt)

-- ---- any two heights

column_within : (width j : ℕ) → j < width → j < 8 * block_count width
column_within width j lt = omega (arith, lt)

-- The rows below 8 * n - 21 of a picture are the same for any two heights of at least n block rows.
pub heights_alike : (g : Geometry) (numbers : ℕ → ℕ → ℤ) (r r' n i j : ℕ) → 2 ≤ block_count g.width → n ≤ r → n ≤ r' → i < 8 * n - 21 → j < g.width →
    picture_of g numbers r i j ≡ picture_of g numbers r' i j
unfolding picture_of
heights_alike g numbers r r' n i j wide least least' low across = grind (arith, nat_tests, rising-reach, column_within)

-- the height in a geometry doesn't matter
pub sized_same : (g : Geometry) (rows : ℕ) (numbers : ℕ → ℕ → ℤ) (r : ℕ) → picture_of (record g { rows = rows }) numbers r ≡ picture_of g numbers r
unfolding picture_of
sized_same g rows numbers r = refl

-- nor does it for the numbers of its blocks
pub number_sized : (g : Geometry) (rows : ℕ) (received : ℕ → Option (List (List ℤ))) → number_at (record g { rows = rows }) received ≡ number_at g received
unfolding number_at
number_sized g rows received = refl

band_open : (g : Geometry) (n : ℕ) → g.rows ≡ 0 → band_rows g n ≡ n + 3
band_open g n e = rw (is_open g.rows e) refl

module _ (g : Geometry) (numbers : ℕ → ℕ → ℤ) (unknown : g.rows ≡ 0) (wide : 2 ≤ block_count g.width) (n k : ℕ) (low : k ≤ 8 * n - 21) where
  -- while the height isn't reported they are those of the tallest image
  pub placed_pixels : n ≤ block_count (placed_rows g) → (i j : ℕ) → i < k → j < g.width → whole_with (placed g) numbers i j ≡ picture_with g numbers n i j
  placed_pixels few i j row column = grind (arith, nat_tests, sized_same, heights_alike, band_open)

  pub placed_octets : n ≤ block_count (placed_rows g) → raster_octets g.depth k g.width (whole_with (placed g) numbers) ≡ raster_octets g.depth k g.width
      (picture_with g numbers n)
  placed_octets few = raster_same g.depth k g.width (whole_with (placed g) numbers) (picture_with g numbers n) (placed_pixels few)
