-- The made image is in range, and its raster is made part by part.
use Rattle.std.proofs.Common.{◌≡◌, ◌<◌, ◌+◌, ◌-◌, ◌*◌, ◌/◌, ◌%◌, ◌^◌, ◌∙◌, ℕ, ℤ, zero, suc, pos, ◌-ℤ◌, Bool, true, false, nat_lt, List, [], ◌∷◌, ◌++◌, map}
use Rattle.std.proofs.Common.{refl, ap, arith, if◌then◌else◌}
use Rattle.std.specs.List.{range_with_len}
use Rattle.std.proofs.lemmas.Int.{ints}
use Rattle.std.proofs.lemmas.Bool.Decides.{nat_tests}
use Rattle.std.proofs.lemmas.List.{append-nil, map-append}
use Rattle.std.proofs.lemmas.Grind.{flat_map-append}
use Rattle.std.proofs.lemmas.Nat.{pow_pos, div_below, mod_below}
use Rattle.raster_rows.specs.declared.made.MadeImage.{MadeImage}
use Rattle.raster_rows.specs.Pixels.{IsDepth, IsPixel, pixel_octets, raster_octets, clamped}
use Rattle.raster_rows.specs.Made.{ramp, noise, made_value}
use Rattle.raster_rows.proofs.Ranges.{twice_half, level_shift}
use Rattle.raster_rows.proofs.Numbers.{clamped_is}
use Rattle.raster_rows.proofs.RasterLaws.{row_pixels, rows_from}

-- a phase that is folded
folded : (phase : ℕ) → phase < 512 → (if nat_lt phase 256 then phase else 511 - phase) < 256
folded phase few = grind (arith, nat_tests)

-- the ramp has 8 bits
pub ramp_most : (seed row column : ℕ) → ramp seed row column < 256
ramp_most seed row column = folded ((3 * row + 5 * column + seed) % 512) (mod_below (3 * row + 5 * column + seed) 512 (omega arith))

-- the noise has 8 bits
pub noise_most : (seed row column : ℕ) → noise seed row column < 256
noise_most seed row column = grind (arith, nat_tests, mod_below, pow_pos, div_below)

-- a level of 12 bits at a depth is a pixel
level_in_range : (level depth : ℕ) (signed : Bool) → level < 2 ^ 12 → IsDepth depth →
    IsPixel depth signed (pos (level * 2 ^ depth / 4096) -ℤ (if signed then pos (2 ^ (depth - 1)) else pos 0))
level_in_range level depth true lt is =
    let facts = level_shift level depth lt is in
    let twice : 2 ^ depth ≡ 2 * 2 ^ (depth - 1) = twice_half depth is.0 in
    record { low = omega (arith, ints, facts.1, twice); high = omega (arith, ints, facts.1, twice) }
level_in_range level depth false lt is =
    let facts = level_shift level depth lt is in
    record { low = omega (arith, ints, facts.1); high = omega (arith, ints, facts.1) }

-- each made pixel is in range
pub made_in_range : (made : MadeImage) (row column : ℕ) → IsDepth made.depth → IsPixel made.depth made.signed (made_value made row column)
made_in_range made row column is =
    level_in_range (15 * ramp made.seed row column + noise made.seed row column) made.depth made.signed
    (omega (arith, ramp_most made.seed row column, noise_most made.seed row column)) is

-- pixels are not clamped
pub map-clamped : (depth : ℕ) (signed : Bool) (pixel : ℕ → ℤ) (places : List ℕ) → IsDepth depth → ((k : ℕ) → IsPixel depth signed (pixel k)) →
    map (clamped depth signed) (map pixel places) ≡ map pixel places
map-clamped depth signed pixel [] is each = refl
map-clamped depth signed pixel (k ∷ places) is each =
    let here = each k in
    let same : clamped depth signed (pixel k) ≡ pixel k = (clamped_is depth signed (pixel k) is).2 here.low here.high in
    let rest : map (clamped depth signed) (map pixel places) ≡ map pixel places = map-clamped depth signed pixel places is each in
    ap (λ v. v ∷ map (clamped depth signed) (map pixel places)) same ∙ ap (λ vs. pixel k ∷ vs) rest

-- some numbers, and more of them
pub range-append : (a n m : ℕ) → range_with_len a (n + m) ≡ range_with_len a n ++ range_with_len (a + n) m
range-append a zero m = grind (arith, nat_tests)
range-append a (suc n) m =
    let more : suc n + m ≡ suc (n + m) = omega arith in
    let next : a + 1 + n ≡ a + suc n = omega arith in
    ap (range_with_len a) more ∙ ap (λ zs. a ∷ zs) (range-append (a + 1) n m) ∙ ap (λ k. a ∷ (range_with_len (a + 1) n ++ range_with_len k m)) next

-- the octets of a row, part by part
pub row_octets-append : (depth : ℕ) (pixel : ℕ → ℤ) (from n m : ℕ) →
    pixel_octets depth (map pixel (range_with_len from (n + m))) ≡ pixel_octets depth (map pixel (range_with_len from n))
    ++ pixel_octets depth (map pixel (range_with_len (from + n) m))
row_octets-append depth pixel from n m = grind (arith, nat_tests, map, range-append, map-append, flat_map-append)

-- the octets of a raster, rows by rows
pub rows_from-append : (depth width : ℕ) (image : ℕ → ℕ → ℤ) (from n m : ℕ) →
    rows_from depth width image from (n + m) ≡ rows_from depth width image from n ++ rows_from depth width image (from + n) m
rows_from-append depth width image from n m = grind (arith, nat_tests, row_pixels, range-append, flat_map-append)

-- one more row of a raster
pub raster_octets-more : (depth rows width : ℕ) (image : ℕ → ℕ → ℤ) →
    raster_octets depth (rows + 1) width image ≡ raster_octets depth rows width image ++ pixel_octets depth (row_pixels width (image rows))
raster_octets-more depth rows width image =
    let row : List ℕ = pixel_octets depth (row_pixels width (image (0 + rows))) in
    let first : 0 + rows ≡ rows = omega arith in
    rows_from-append depth width image 0 rows 1 ∙ ap (λ zs. raster_octets depth rows width image ++ zs) (append-nil row) ∙
    ap (λ i. raster_octets depth rows width image ++ pixel_octets depth (row_pixels width (image i))) first
