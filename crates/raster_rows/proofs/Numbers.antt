-- Numbers that represent pixels.
use Rattle.std.proofs.Common.{◌≡◌, ◌<◌, ◌≤◌, ◌-◌, ◌*◌, ◌^◌, ℕ, ℤ, pos, negsuc, ◌+ℤ◌, ◌≤ℤ◌, ◌<ℤ◌, Bool, true, false, nat_le, refl, arith, pow_mono, pow_pos}
use Rattle.std.specs.Int.{int_min, int_max}
use Rattle.std.proofs.lemmas.Int.{ints, clamps}
use Rattle.std.proofs.lemmas.Bool.Decides.{nat_tests}
use Rattle.raster_rows.specs.Pixels.{IsDepth, IsPixel, sign_weight, least_pixel, greatest_pixel, number_of, clamped}
use Rattle.raster_rows.proofs.Ranges.{twice_half}

-- half of the values are at most the weight of the sign bit
pub half_most : (depth : ℕ) → IsDepth depth → 2 ^ (depth - 1) ≤ sign_weight depth
half_most depth is = grind (arith, nat_tests, pow_mono)

-- the weight of the sign bit
pub sign_some : (depth : ℕ) → 0 < sign_weight depth
sign_some depth = grind (arith, nat_tests, nat_le, true, false)

pub sign_most : (depth : ℕ) → sign_weight depth ≤ 2 ^ 15
sign_most depth = grind (arith, nat_tests, nat_le, true, false)

pub sign_of_octet : (depth : ℕ) → depth ≤ 8 → sign_weight depth ≡ 2 ^ 7
sign_of_octet depth le = grind (arith, nat_tests)

-- a pixel's number has no more octets than the pixel
number_below : (depth : ℕ) (pixel : ℤ) → pixel <ℤ pos (2 * sign_weight depth) → number_of depth pixel < 2 * sign_weight depth
number_below depth (pos n) lt = omega (arith, ints, lt)
number_below depth (negsuc n) lt = omega (arith, sign_some depth)

-- a value that is not negative is represented by itself
pub number_of-pos : (depth : ℕ) (value : ℤ) → pos 0 ≤ℤ value → pos (number_of depth value) ≡ value
number_of-pos depth (pos n) le = refl
number_of-pos depth (negsuc n) le = absurd (omega (arith, ints, le))

-- a negative value is represented by a number with the sign bit
pub number_of-neg : (depth : ℕ) (value : ℤ) → value <ℤ pos 0 → pos 0 ≤ℤ (value +ℤ pos (2 * sign_weight depth)) →
    pos (number_of depth value) ≡ value +ℤ pos (2 * sign_weight depth)
number_of-neg depth (pos n) lt some = absurd (omega (arith, ints, lt))
number_of-neg depth (negsuc n) lt some = omega (arith, ints, some)

-- the least value is not above the greatest
pub least_most : (depth : ℕ) (signed : Bool) → IsDepth depth → least_pixel depth signed ≤ℤ greatest_pixel depth signed
least_most depth true is = grind (arith, nat_tests, pow_pos, ints)
least_most depth false is = grind (arith, nat_tests, pow_pos, ints)

-- a pixel has the range of its octets
pub pixel_bounds : (depth : ℕ) (signed : Bool) (pixel : ℤ) → IsDepth depth → IsPixel depth signed pixel →
    (pos 0 ≤ℤ (pixel +ℤ pos (sign_weight depth))) × (pixel <ℤ pos (2 * sign_weight depth))
pixel_bounds depth true pixel is here = grind (arith, nat_tests, half_most, pow_pos, pos, ints)
pixel_bounds depth false pixel is here = grind (arith, nat_tests, half_most, twice_half, pow_pos, pos, ints)

-- the number that represents a pixel
pub pixel_spelt : (depth : ℕ) (signed : Bool) (pixel : ℤ) → IsDepth depth → IsPixel depth signed pixel →
    (pixel <ℤ pos 0 → pos (number_of depth pixel) ≡ pixel +ℤ pos (2 * sign_weight depth)) × (pos 0 ≤ℤ pixel → pos (number_of depth pixel) ≡ pixel) ×
    (number_of depth pixel < 2 * sign_weight depth) × (sign_weight depth ≤ 2 ^ 15) × (depth ≤ 8 → sign_weight depth ≡ 2 ^ 7)
pixel_spelt depth signed pixel is here = grind (arith, nat_tests, pixel_bounds, pos, number_of-neg, ints, number_of-pos, number_below, sign_most, sign_of_octet)

-- the nearest value of a range
nearest_of : (least greatest value : ℤ) → least ≤ℤ greatest →
    (value <ℤ least → int_max least (int_min value greatest) ≡ least) × (greatest <ℤ value → int_max least (int_min value greatest) ≡ greatest) ×
    (least ≤ℤ value → value ≤ℤ greatest → int_max least (int_min value greatest) ≡ value)
nearest_of least greatest value le = (λ lt. omega (arith, ints, clamps), λ lt. omega (arith, ints, clamps), λ low high. omega (arith, ints, clamps))

-- the nearest pixel
pub clamped_is : (depth : ℕ) (signed : Bool) (value : ℤ) → IsDepth depth →
    (value <ℤ least_pixel depth signed → clamped depth signed value ≡ least_pixel depth signed) ×
    (greatest_pixel depth signed <ℤ value → clamped depth signed value ≡ greatest_pixel depth signed) ×
    (least_pixel depth signed ≤ℤ value → value ≤ℤ greatest_pixel depth signed → clamped depth signed value ≡ value)
clamped_is depth signed value is = nearest_of (least_pixel depth signed) (greatest_pixel depth signed) value (least_most depth signed is)

-- the number that represents a pixel without a sign is the pixel itself
pub plain_spelt : (depth : ℕ) (signed : Bool) (pixel : ℤ) → IsDepth depth → signed ≡ false → IsPixel depth signed pixel →
    (pos 0 ≤ℤ pixel) × (pos (number_of depth pixel) ≡ pixel) × (number_of depth pixel < 2 * sign_weight depth) × (sign_weight depth ≤ 2 ^ 15)
    × (depth ≤ 8 → sign_weight depth ≡ 2 ^ 7)
plain_spelt depth true pixel is plain here = cc
plain_spelt depth false pixel is plain here =
    let spelt = pixel_spelt depth false pixel is here in
    let low : pos 0 ≤ℤ pixel = here.low in
    (low, spelt.1 low, spelt.2, spelt.3, spelt.4)
