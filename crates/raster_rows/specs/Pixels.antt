-- Pixels and their octets in a raster. This project's own.
use Rattle.std.specs.Prelude.{◌+◌, ◌-◌, ◌*◌, ◌/◌, ◌%◌, ◌^◌, ◌-ℤ◌, ◌≤ℤ◌, ℕ, ℤ, pos, negsuc, Bool, true, false, nat_le, nat_lt, if◌then◌else◌, List, [], ◌∷◌}
use Rattle.std.specs.Prelude.{length, slice_index, map}
use Rattle.std.specs.Int.{int_min, int_max}
use Rattle.std.specs.List.{flat_map, range_with_len}
use Rattle.base_122.specs.Ranges.{IsWithin, depth_range}

-- a pixel's bits are in their range
abbrev pub IsDepth : ℕ → Type 0
IsDepth depth = IsWithin depth_range depth

-- how many octets a pixel has
abbrev pub pixel_size : ℕ → ℕ
pixel_size depth = if nat_le depth 8 then 1 else 2

-- the weight of the sign bit in the octets of a pixel
abbrev pub sign_weight : ℕ → ℕ
sign_weight depth = if nat_le depth 8 then 2 ^ 7 else 2 ^ 15

-- the least value of a pixel
abbrev pub least_pixel : ℕ → Bool → ℤ
least_pixel depth true = pos 0 -ℤ pos (2 ^ (depth - 1))
least_pixel depth false = pos 0

-- the greatest value of a pixel
abbrev pub greatest_pixel : ℕ → Bool → ℤ
greatest_pixel depth true = pos (2 ^ (depth - 1) - 1)
greatest_pixel depth false = pos (2 ^ depth - 1)

-- a value is in the range of pixels
pub record IsPixel (depth : ℕ) (signed : Bool) (value : ℤ) : Type 0 where
  pub low : least_pixel depth signed ≤ℤ value
  pub high : value ≤ℤ greatest_pixel depth signed

-- the number that the octets of the pixel at a place represent, the greater octet first
abbrev pub number_at : ℕ → List ℕ → ℕ → ℕ
number_at depth octets place =
    if nat_le depth 8 then slice_index octets place else 256 * slice_index octets (2 * place) + slice_index octets (2 * place + 1)

-- the value that a number represents, in two's complement if pixels are signed
abbrev pub value_of : ℕ → Bool → ℕ → ℤ
value_of depth true number = if nat_lt number (sign_weight depth) then pos number else pos number -ℤ pos (2 * sign_weight depth)
value_of depth false number = pos number

-- the pixel at a place of these octets
abbrev pub pixel_at : ℕ → Bool → List ℕ → ℕ → ℤ
pixel_at depth signed octets place = value_of depth signed (number_at depth octets place)

-- how many whole pixels these octets begin with
abbrev pub whole_pixels : ℕ → List ℕ → ℕ
whole_pixels depth octets = length octets / pixel_size depth

-- the pixel at a row and a column of a raster of this width
abbrev pub raster_pixel : ℕ → Bool → ℕ → List ℕ → ℕ → ℕ → ℤ
raster_pixel depth signed width octets row column = pixel_at depth signed octets (row * width + column)

-- the number that represents a value
abbrev pub number_of : ℕ → ℤ → ℕ
number_of depth (pos n) = n
number_of depth (negsuc n) = 2 * sign_weight depth - (n + 1)

-- the octets that represent a number, the greater first
abbrev pub octets_of : ℕ → ℕ → List ℕ
octets_of depth number = if nat_le depth 8 then number ∷ [] else number / 256 ∷ number % 256 ∷ []

-- the octets of a list of pixels
abbrev pub pixel_octets : ℕ → List ℤ → List ℕ
pixel_octets depth pixels = flat_map (λ pixel. octets_of depth (number_of depth pixel)) pixels

-- the octets of the first rows and columns of an image, its rows from the top
abbrev pub raster_octets : ℕ → ℕ → ℕ → (ℕ → ℕ → ℤ) → List ℕ
raster_octets depth rows width image =
    flat_map (λ row. pixel_octets depth (map (image row) (range_with_len 0 width))) (range_with_len 0 rows)

-- the nearest value in the range of pixels
abbrev pub clamped : ℕ → Bool → ℤ → ℤ
clamped depth signed value = int_max (least_pixel depth signed) (int_min value (greatest_pixel depth signed))
