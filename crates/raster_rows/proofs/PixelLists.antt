-- The octets of lists of pixels.
use Rattle.std.proofs.Common.{◌≡◌, ◌<◌, ◌+◌, ◌∙◌, ℕ, ℤ, pos, Bool, List, [], ◌∷◌, ◌++◌, length, get_or, map, take, drop, sym, ap, take-add, arith}
use Rattle.std.proofs.lemmas.List.{append-nil, map-append, take_more, take-append-drop}
use Rattle.std.proofs.lemmas.Grind.{flat_map-append}
use Rattle.std.proofs.lemmas.Bool.Decides.{nat_tests}
use Rattle.raster_rows.specs.Pixels.{number_of, octets_of, pixel_octets, clamped}

-- the octets of two lists of values, one after the other
pub pixel_octets-append : (depth : ℕ) (signed : Bool) (xs ys : List ℤ) →
    pixel_octets depth (map (clamped depth signed) (xs ++ ys)) ≡ pixel_octets depth (map (clamped depth signed) xs)
    ++ pixel_octets depth (map (clamped depth signed) ys)
pixel_octets-append depth signed xs ys = grind (arith, nat_tests, map-append, flat_map-append, map)

-- one more value
pub one_spelt : (depth : ℕ) (signed : Bool) (values : List ℤ) (place number : ℕ) (pixel : ℤ) (before after : List ℕ) → place < length values →
    pixel ≡ clamped depth signed (get_or values place (pos 0)) → number ≡ number_of depth pixel →
    before ≡ pixel_octets depth (map (clamped depth signed) (take place values)) → after ≡ before ++ octets_of depth number →
    after ≡ pixel_octets depth (map (clamped depth signed) (take (place + 1) values))
one_spelt depth signed values place number pixel before after lt pixel_is number_is before_is after_is =
    let value = get_or values place (pos 0) in
    let octets : octets_of depth number ≡ octets_of depth (number_of depth (clamped depth signed value)) =
    ap (octets_of depth) (number_is ∙ ap (number_of depth) pixel_is) in
    let more : pixel_octets depth (map (clamped depth signed) (take (place + 1) values)) ≡
    pixel_octets depth (map (clamped depth signed) (take place values)) ++ (octets_of depth (number_of depth (clamped depth signed value)) ++ []) =
    ap (λ zs. pixel_octets depth (map (clamped depth signed) zs)) (take_more values place (pos 0) lt) ∙ pixel_octets-append depth signed (take place values)
    (value ∷ []) in
    after_is ∙ ap (λ zs. zs ++ octets_of depth number) before_is ∙ ap (λ zs. pixel_octets depth (map (clamped depth signed) (take place values)) ++ zs)
    (octets ∙ sym (append-nil _)) ∙ sym more

-- some values, and n more
pub more_spelt : (depth : ℕ) (signed : Bool) (values : List ℤ) (done n : ℕ) →
    pixel_octets depth (map (clamped depth signed) (take (done + n) values)) ≡
    pixel_octets depth (map (clamped depth signed) (take done values)) ++ pixel_octets depth (map (clamped depth signed) (take n (drop done values)))
more_spelt depth signed values done n = grind (arith, nat_tests, map, take-add, pixel_octets-append)

-- some values, n more, and the rest
pub all_spelt : (depth : ℕ) (signed : Bool) (values : List ℤ) (done n : ℕ) →
    pixel_octets depth (map (clamped depth signed) values) ≡
    pixel_octets depth (map (clamped depth signed) (take done values)) ++
    (pixel_octets depth (map (clamped depth signed) (take n (drop done values))) ++ pixel_octets depth (map (clamped depth signed) (drop n (drop done values))))
all_spelt depth signed values done n =
    ap (λ zs. pixel_octets depth (map (clamped depth signed) zs)) (sym (take-append-drop done values)) ∙ pixel_octets-append depth signed (take done values)
    (drop done values) ∙
    ap (λ zs. pixel_octets depth (map (clamped depth signed) (take done values)) ++ zs)
    (ap (λ zs. pixel_octets depth (map (clamped depth signed) zs)) (sym (take-append-drop n (drop done values))) ∙ pixel_octets-append depth signed
    (take n (drop done values)) (drop n (drop done values)))
