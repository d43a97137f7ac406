-- Pixels and their octets undo each other.
use Rattle.std.proofs.Common.{◌≡◌, ◌<◌, ◌+◌, ◌*◌, ◌∙◌, ℕ, ℤ, zero, suc, pos, negsuc, ◌≤ℤ◌, Bool, true, false, nat_le, List, [], ◌∷◌, ◌++◌, length, get_or}
use Rattle.std.proofs.Common.{refl, ap, arith, length-append, lt-ltb, le-ltb, pow_pos}
use Rattle.std.proofs.lemmas.Int.{ints}
use Rattle.std.proofs.Math.Nat.{div-add-mod}
use Rattle.std.proofs.lemmas.Bool.Decides.{nat_tests}
use Rattle.raster_rows.specs.Pixels.{IsDepth, IsPixel, pixel_size, number_at, value_of, pixel_at, number_of, octets_of, pixel_octets}
use Rattle.raster_rows.proofs.Numbers.{half_most}
use Rattle.raster_rows.proofs.PixelPlaces.{pixel_at-append_left, pixel_at-append_right}

-- the value of the number that represents a pixel
pub value_of-number_of : (depth : ℕ) (signed : Bool) (pixel : ℤ) → IsDepth depth → IsPixel depth signed pixel →
    value_of depth signed (number_of depth pixel) ≡ pixel
value_of-number_of depth false (pos n) is here = refl
value_of-number_of depth false (negsuc n) is here = let low : pos 0 ≤ℤ negsuc n = here.low in absurd (omega (arith, ints, low))
value_of-number_of depth true (pos n) is here = grind (arith, nat_tests, half_most, pow_pos, ints, lt-ltb)
value_of-number_of depth true (negsuc n) is here = grind (arith, nat_tests, half_most, pos, ints, le-ltb)

-- the octets of a number are those of a pixel
pub length-octets_of : (depth number : ℕ) → length (octets_of depth number) ≡ pixel_size depth
length-octets_of depth number = grind (arith, nat_tests, nat_le, true, false)

-- the number that its octets represent
pub number_at-octets_of : (depth number : ℕ) → number_at depth (octets_of depth number) 0 ≡ number
number_at-octets_of depth number = grind (arith, nat_tests, get_or, nat_le, true, false, div-add-mod)

-- the pixel that its octets represent
pub pixel_at-octets_of : (depth : ℕ) (signed : Bool) (pixel : ℤ) → IsDepth depth → IsPixel depth signed pixel →
    pixel_at depth signed (octets_of depth (number_of depth pixel)) 0 ≡ pixel
pixel_at-octets_of depth signed pixel is here = ap (value_of depth signed) (number_at-octets_of depth (number_of depth pixel))
    ∙ value_of-number_of depth signed pixel is here

pub length-pixel_octets : (depth : ℕ) (pixels : List ℤ) → length (pixel_octets depth pixels) ≡ length pixels * pixel_size depth
length-pixel_octets depth [] = omega arith
length-pixel_octets depth (pixel ∷ pixels) =
    let prefix : List ℕ = octets_of depth (number_of depth pixel) in
    let one : length prefix ≡ pixel_size depth = length-octets_of depth (number_of depth pixel) in
    let count : length (pixel ∷ pixels) ≡ length pixels + 1 = omega arith in
    let size : length (pixel ∷ pixels) * pixel_size depth ≡ (length pixels + 1) * pixel_size depth = ap (λ n. n * pixel_size depth) count in
    omega (arith, length-append prefix (pixel_octets depth pixels), one, length-pixel_octets depth pixels, size)

-- each pixel of the octets of a list of pixels
pub pixel_at-pixel_octets : (depth : ℕ) (signed : Bool) (pixels : List ℤ) (k : ℕ) → IsDepth depth →
    ((i : ℕ) → i < length pixels → IsPixel depth signed (get_or pixels i (pos 0))) → k < length pixels →
    pixel_at depth signed (pixel_octets depth pixels) k ≡ get_or pixels k (pos 0)
pixel_at-pixel_octets depth signed [] k is each lt = absurd (omega (arith, lt))
pixel_at-pixel_octets depth signed (pixel ∷ pixels) zero is each lt =
    let prefix : List ℕ = octets_of depth (number_of depth pixel) in
    let one : length prefix ≡ pixel_size depth = length-octets_of depth (number_of depth pixel) in
    pixel_at-append_left depth signed prefix (pixel_octets depth pixels) 0 (omega (arith, one)) ∙ pixel_at-octets_of depth signed pixel is (each 0 lt)
pixel_at-pixel_octets depth signed (pixel ∷ pixels) (suc k) is each lt =
    let prefix : List ℕ = octets_of depth (number_of depth pixel) in
    let one : length prefix ≡ 1 * pixel_size depth = omega (arith, length-octets_of depth (number_of depth pixel)) in
    let place : suc k ≡ 1 + k = omega arith in
    let shorter : k < length pixels = omega (arith, lt) in
    ap (pixel_at depth signed (prefix ++ pixel_octets depth pixels)) place ∙
    pixel_at-append_right depth signed prefix (pixel_octets depth pixels) 1 k one ∙
    pixel_at-pixel_octets depth signed pixels k is (λ i less. each (suc i) (omega (arith, less))) shorter
