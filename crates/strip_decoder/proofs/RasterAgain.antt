-- The octets of a raster's image are the raster's own.
use Rattle.std.proofs.Common.{◌≡◌, ◌≤◌, ◌<◌, ◌+◌, ◌*◌, ◌∙◌, ℕ, zero, suc, ℤ, Bool, List, [], ◌∷◌, ◌++◌, length, get_or, map, take, All, refl, sym, ap}
use Rattle.std.proofs.Common.{arith, inl, inr}
use Rattle.std.specs.List.{flat_map, range_with_len}
use Rattle.std.proofs.Math.Seq.{take-length}
use Rattle.std.proofs.lemmas.Bool.{cases_lt}
use Rattle.std.proofs.lemmas.List.Elements.{All-get_or}
use Rattle.raster_rows.specs.Pixels.{pixel_size, pixel_at, pixel_octets, raster_pixel, raster_octets}
use Rattle.raster_rows.proofs.MadeLaws.{row_octets-append}
use Rattle.raster_rows.proofs.OctetLaws.{pixel_octets-pixel_at}

map-from : (f : ℕ → ℤ) (k a n : ℕ) → map (λ j. f (k + j)) (range_with_len a n) ≡ map f (range_with_len (k + a) n)
map-from f k a zero = refl
map-from f k a (suc n) =
    let next : k + (a + 1) ≡ k + a + 1 = omega arith in
    ap (λ xs. f (k + a) ∷ xs) (map-from f k (a + 1) n ∙ ap (λ m. map f (range_with_len m n)) next)

-- rows one after another are pixels one after another
rows-flat : (depth : ℕ) (signed : Bool) (width : ℕ) (octets : List ℕ) (rows from : ℕ) →
    flat_map (λ row. pixel_octets depth (map (raster_pixel depth signed width octets row) (range_with_len 0 width))) (range_with_len from rows) ≡
    pixel_octets depth (map (pixel_at depth signed octets) (range_with_len (from * width) (rows * width)))
rows-flat depth signed width octets zero from =
    let none : 0 ≡ zero * width = omega arith in ap (λ n. pixel_octets depth (map (pixel_at depth signed octets) (range_with_len (from * width) n))) none
rows-flat depth signed width octets (suc rows) from =
    let pixel = pixel_at depth signed octets in
    let row_octets : ℕ → List ℕ = λ row. pixel_octets depth (map (raster_pixel depth signed width octets row) (range_with_len 0 width)) in
    let first : from * width + 0 ≡ from * width = omega arith in
    let later : (from + 1) * width ≡ from * width + width = grind arith in
    let more : width + rows * width ≡ suc rows * width = grind arith in
    let row : map (raster_pixel depth signed width octets from) (range_with_len 0 width) ≡ map pixel (range_with_len (from * width) width) =
    map-from pixel (from * width) 0 width ∙ ap (λ m. map pixel (range_with_len m width)) first in
    ap (λ pixels. pixel_octets depth pixels ++ flat_map row_octets (range_with_len (from + 1) rows)) row
    ∙ ap (λ rest. pixel_octets depth (map pixel (range_with_len (from * width) width)) ++ rest) (rows-flat depth signed width octets rows (from + 1))
    ∙ ap (λ m. pixel_octets depth (map pixel (range_with_len (from * width) width)) ++ pixel_octets depth (map pixel (range_with_len m (rows * width)))) later
    ∙ sym (row_octets-append depth pixel (from * width) width (rows * width))
    ∙ ap (λ n. pixel_octets depth (map pixel (range_with_len (from * width) n))) more

each_below : (octets : List ℕ) → All (λ octet. octet < 256) octets → (i : ℕ) → get_or octets i 0 < 256
each_below octets are i = elim (cases_lt i (length octets)) [
  | inl lt ↦ All-get_or (λ octet. octet < 256) octets i 0 lt are
  | inr over ↦ by octets i over
]
  where
    by : (xs : List ℕ) (i : ℕ) → length xs ≤ i → get_or xs i 0 < 256
    by [] i over = omega arith
    by (x ∷ xs) zero over = absurd (omega (arith, over))
    by (x ∷ xs) (suc i) over = by xs i (omega (arith, over))

pub raster-again : (depth : ℕ) (signed : Bool) (rows width : ℕ) (raster : List ℕ) → All (λ octet. octet < 256) raster →
    length raster ≡ rows * (width * pixel_size depth) → raster_octets depth rows width (raster_pixel depth signed width raster) ≡ raster
raster-again depth signed rows width raster are size =
    let pixel = pixel_at depth signed raster in
    let start : 0 * width ≡ 0 = omega arith in
    let all : rows * width * pixel_size depth ≡ length raster = flat rows width (pixel_size depth) ∙ sym size in
    rows-flat depth signed width raster rows 0 ∙ ap (λ m. pixel_octets depth (map pixel (range_with_len m (rows * width)))) start
    ∙ pixel_octets-pixel_at depth signed raster (rows * width) (each_below raster are) (omega (arith, all)) ∙ ap (λ n. take n raster) all ∙ take-length raster
  where
    flat : (rows width size : ℕ) → rows * width * size ≡ rows * (width * size)
    flat rows width size = grind arith
