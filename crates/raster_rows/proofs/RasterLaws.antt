-- A raster and its image undo each other.
use Rattle.std.proofs.Common.{◌≡◌, ◌<◌, ◌+◌, ◌*◌, ◌∙◌, ℕ, ℤ, zero, suc, pos, Bool, List, ◌++◌, length, get_or, map, ap, arith, length-append}
use Rattle.std.specs.List.{flat_map, range_with_len}
use Rattle.std.proofs.lemmas.List.FromFn.{length-map-range_with_len, get_or-map-range_with_len}
use Rattle.std.proofs.lemmas.Bool.Decides.{nat_tests}
use Rattle.raster_rows.specs.Pixels.{IsDepth, IsPixel, pixel_size, pixel_at, raster_pixel, pixel_octets, raster_octets}
use Rattle.raster_rows.proofs.PixelPlaces.{pixel_at-append_left, pixel_at-append_right, whole_before}
use Rattle.raster_rows.proofs.PixelLaws.{length-pixel_octets, pixel_at-pixel_octets}

-- the pixels of a row, as a list
abbrev pub row_pixels : ℕ → (ℕ → ℤ) → List ℤ
row_pixels width pixel = map pixel (range_with_len 0 width)

-- how many octets a row has
pub length-row_octets : (depth width : ℕ) (pixel : ℕ → ℤ) → length (pixel_octets depth (row_pixels width pixel)) ≡ width * pixel_size depth
length-row_octets depth width pixel = grind (arith, nat_tests, length-pixel_octets, row_pixels, length-map-range_with_len)

-- each pixel of a row's octets
pub pixel_at-row_octets : (depth : ℕ) (signed : Bool) (width : ℕ) (pixel : ℕ → ℤ) (column : ℕ) → IsDepth depth →
    ((k : ℕ) → k < width → IsPixel depth signed (pixel k)) → column < width → pixel_at depth signed (pixel_octets depth (row_pixels width pixel)) column
    ≡ pixel column
pixel_at-row_octets depth signed width pixel column is each lt =
    grind (arith, nat_tests, row_pixels, length-map-range_with_len, get_or, pos, get_or-map-range_with_len, pixel_at-pixel_octets)

-- the rows of an image from one on
abbrev pub rows_from : ℕ → ℕ → (ℕ → ℕ → ℤ) → ℕ → ℕ → List ℕ
rows_from depth width image from rows = flat_map (λ row. pixel_octets depth (row_pixels width (image row))) (range_with_len from rows)

pixel_at-rows_from : (depth : ℕ) (signed : Bool) (width : ℕ) (image : ℕ → ℕ → ℤ) (rows from row column : ℕ) → IsDepth depth →
    ((i j : ℕ) → i < from + rows → j < width → IsPixel depth signed (image i j)) → row < rows → column < width →
    pixel_at depth signed (rows_from depth width image from rows) (row * width + column) ≡ image (from + row) column
pixel_at-rows_from depth signed width image zero from row column is each lt inside = absurd (omega (arith, lt))
pixel_at-rows_from depth signed width image (suc rows) from zero column is each lt inside =
    grind (arith, nat_tests, row_pixels, length-row_octets, whole_before, rows_from, pixel_at-append_left, pixel_at-row_octets)
pixel_at-rows_from depth signed width image (suc rows) from (suc row) column is each lt inside =
    let prefix : List ℕ = pixel_octets depth (row_pixels width (image from)) in
    let size : length prefix ≡ width * pixel_size depth = length-row_octets depth width (image from) in
    let place : suc row * width + column ≡ width + (row * width + column) = omega arith in
    let next : from + 1 + row ≡ from + suc row = omega arith in
    let all : (i j : ℕ) → i < from + 1 + rows → j < width → IsPixel depth signed (image i j) = λ i j less within. each i j (omega (arith, less)) within in
    ap (pixel_at depth signed (prefix ++ rows_from depth width image (from + 1) rows)) place ∙
    pixel_at-append_right depth signed prefix (rows_from depth width image (from + 1) rows) width (row * width + column) size ∙
    pixel_at-rows_from depth signed width image rows (from + 1) row column is all (omega (arith, lt)) inside ∙
    ap (λ i. image i column) next

-- each pixel of an image's raster
pub raster_pixel-raster_octets : (depth : ℕ) (signed : Bool) (rows width : ℕ) (image : ℕ → ℕ → ℤ) (row column : ℕ) → IsDepth depth →
    ((i j : ℕ) → i < rows → j < width → IsPixel depth signed (image i j)) → row < rows → column < width →
    raster_pixel depth signed width (raster_octets depth rows width image) row column ≡ image row column
raster_pixel-raster_octets depth signed rows width image row column is each lt inside =
    let all : (i j : ℕ) → i < 0 + rows → j < width → IsPixel depth signed (image i j) = λ i j less within. each i j (omega (arith, less)) within in
    let first : 0 + row ≡ row = omega arith in
    pixel_at-rows_from depth signed width image rows 0 row column is all lt inside ∙ ap (λ i. image i column) first

length-rows_from : (depth width : ℕ) (image : ℕ → ℕ → ℤ) (rows from : ℕ) → length (rows_from depth width image from rows) ≡ rows * (width * pixel_size depth)
length-rows_from depth width image zero from = omega arith
length-rows_from depth width image (suc rows) from =
    let prefix : List ℕ = pixel_octets depth (row_pixels width (image from)) in
    omega (
      arith,
      length-append prefix (rows_from depth width image (from + 1) rows),
      length-row_octets depth width (image from),
      length-rows_from depth width image rows (from + 1),
    )

-- how many octets a raster has
pub length-raster_octets : (depth rows width : ℕ) (image : ℕ → ℕ → ℤ) → length (raster_octets depth rows width image) ≡ rows * (width * pixel_size depth)
length-raster_octets depth rows width image = length-rows_from depth width image rows 0
