-- The picture that received segments give (CCSDS 122.0-B-2 for the inverse transform; that what isn't received is 0 is this
-- project's own).
use Rattle.std.specs.Prelude.{ℕ, ◌+◌, ◌*◌, ◌/◌, ◌%◌, ◌^◌, ◌==◌, ◌&&◌, Bool, ℤ, pos, List, [], Option, unwrap_or, position, slice_index, slice_index_or}
use Rattle.std.specs.List.{range_with_len}
use Rattle.base_122.specs.Sizes.{block_count}
use Rattle.base_122.specs.declared.geometry.Geometry.{Geometry}
use Rattle.wave_defs.specs.Line.{floor_div}
use Rattle.wave_defs.specs.Pyramid.{Pyramid, rebuilt}
use Rattle.wave_defs.specs.Blocks.{Place, place_of, block_side}
use Rattle.raster_rows.specs.Pixels.{clamped, raster_octets}
use Rattle.stream_defs.specs.Begun.{height, band_rows}

-- the number at a position of a block, with blocks counted in raster order; 0 if its segment isn't received
unfoldable pub number_at : Geometry → (ℕ → Option (List (List ℤ))) → (block position : ℕ) → ℤ
number_at g received block i =
    slice_index_or (slice_index_or (unwrap_or (received (block / g.segment)) []) (block % g.segment) []) i (pos 0)

abbrev pub is_place : Place → Place → Bool
is_place p q = (p.band == q.band) && ((p.row == q.row) && (p.column == q.column))

-- the position in a block of the number at this place
unfoldable pub position_of : Place → ℕ
position_of p = unwrap_or (position (λ i. is_place (place_of i) p) (range_with_len 0 64)) 0

-- A band, by its number, of blocks whose numbers are these: each is divided by two to the band's weight.
unfoldable pub band_with : (ℕ → ℕ → ℤ) → (columns : ℕ) → List ℕ → (band : ℕ) → ℕ → ℕ → ℤ
band_with numbers columns weights band row column =
    let side = block_side band in
    let place : Place = record { band = band; row = row % side; column = column % side } in
    floor_div (numbers (row / side * columns + column / side) (position_of place)) (2 ^ slice_index weights band)

-- the ten bands
unfoldable pub pyramid_with : (ℕ → ℕ → ℤ) → (columns : ℕ) → List ℕ → Pyramid
pyramid_with numbers columns weights = record {
  hh1 = band_with numbers columns weights 0;
  hl1 = band_with numbers columns weights 1;
  lh1 = band_with numbers columns weights 2;
  hh2 = band_with numbers columns weights 3;
  hl2 = band_with numbers columns weights 4;
  lh2 = band_with numbers columns weights 5;
  hh3 = band_with numbers columns weights 6;
  hl3 = band_with numbers columns weights 7;
  lh3 = band_with numbers columns weights 8;
  ll3 = band_with numbers columns weights 9;
}

-- the image of r block rows that blocks with these numbers give, each pixel clamped once
unfoldable pub picture_of : Geometry → (ℕ → ℕ → ℤ) → (r : ℕ) → ℕ → ℕ → ℤ
picture_of g numbers r i j =
    let c = block_count g.width in
    clamped g.depth g.signed (rebuilt (pyramid_with numbers c g.weights.shifts) r c i j)

-- ---- where the kept heads reach n block rows

abbrev pub picture_with : Geometry → (ℕ → ℕ → ℤ) → (n : ℕ) → ℕ → ℕ → ℤ
picture_with g numbers n = picture_of g numbers (band_rows g n)

abbrev pub picture : Geometry → (ℕ → Option (List (List ℤ))) → (n : ℕ) → ℕ → ℕ → ℤ
picture g received n = picture_with g (number_at g received) n

-- its octets, cropped to the rows that are given and the image's width
abbrev pub picture_octets : Geometry → (ℕ → Option (List (List ℤ))) → (n : ℕ) → List ℕ
picture_octets g received n = raster_octets g.depth (height g n) g.width (picture g received n)

-- the octets of its first k rows
abbrev pub first_rows : Geometry → (ℕ → Option (List (List ℤ))) → (n k : ℕ) → List ℕ
first_rows g received n k = raster_octets g.depth k g.width (picture g received n)

-- ---- of an image whose height is known

abbrev pub whole_with : Geometry → (ℕ → ℕ → ℤ) → ℕ → ℕ → ℤ
whole_with g numbers = picture_of g numbers (block_count g.rows)

abbrev pub whole_picture : Geometry → (ℕ → Option (List (List ℤ))) → ℕ → ℕ → ℤ
whole_picture g received = whole_with g (number_at g received)

abbrev pub whole_octets : Geometry → (ℕ → Option (List (List ℤ))) → List ℕ
whole_octets g received = raster_octets g.depth g.rows g.width (whole_picture g received)
