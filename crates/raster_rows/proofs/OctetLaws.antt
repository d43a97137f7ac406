-- The octets of the pixels that octets represent are those octets.
use Rattle.std.proofs.Common.{◌≡◌, ◌<◌, ◌≤◌, ◌+◌, ◌-◌, ◌*◌, ◌/◌, ◌%◌, ◌^◌, ◌∙◌, ℕ, zero, suc, pos, negsuc, ◌-ℤ◌, Bool, true, false, nat_le, List, [], ◌∷◌}
use Rattle.std.proofs.Common.{◌++◌, length, get_or, take, map, append_assoc, refl, sym, ap, arith, if◌then◌else◌}
use Rattle.std.specs.List.{range_with_len}
use Rattle.std.proofs.lemmas.Int.{ints}
use Rattle.std.proofs.lemmas.Bool.{lt-ltb, le-ltb, cases_lt}
use Rattle.std.proofs.lemmas.List.{append-nil, take_more}
use Rattle.std.proofs.lemmas.Nat.{div-mul-add, mod-mul-add}
use Rattle.std.proofs.lemmas.Bool.Decides.{nat_tests}
use Rattle.raster_rows.specs.Pixels.{pixel_size, sign_weight, number_at, value_of, pixel_at, number_of, octets_of, pixel_octets}
use Rattle.raster_rows.proofs.PixelPlaces.{whole_before}
use Rattle.raster_rows.proofs.MadeLaws.{row_octets-append}

-- a greater number subtracted from a smaller one
below_zero : (n m : ℕ) → n < m → pos n -ℤ pos m ≡ negsuc (m - n - 1)
below_zero n m lt = omega (arith, ints)

-- the number that represents the value of a number
pub number_of-value_of : (depth : ℕ) (signed : Bool) (number : ℕ) → number < 2 * sign_weight depth → number_of depth (value_of depth signed number) ≡ number
number_of-value_of depth false number lt = refl
number_of-value_of depth true number lt = grind (arith, nat_tests, cases_lt, lt-ltb, le-ltb, below_zero)

-- the number of a pixel's octets is below that of its bits
octets_below : (b : Bool) (octets : List ℕ) (k : ℕ) → ((i : ℕ) → get_or octets i 0 < 256) →
    (if b then get_or octets k 0 else 256 * get_or octets (2 * k) 0 + get_or octets (2 * k + 1) 0) < 2 * (if b then 2 ^ 7 else 2 ^ 15)
octets_below true octets k each = omega (arith, each k)
octets_below false octets k each = omega (arith, each (2 * k), each (2 * k + 1))

-- the octets of a pixel
spelt_again : (b : Bool) (octets : List ℕ) (k : ℕ) → ((i : ℕ) → get_or octets i 0 < 256) → (k + 1) * (if b then 1 else 2) ≤ length octets →
    take (k * (if b then 1 else 2)) octets ++
    (if b then (if b then get_or octets k 0 else 256 * get_or octets (2 * k) 0 + get_or octets (2 * k + 1) 0) ∷ []
    else (if b then get_or octets k 0 else 256 * get_or octets (2 * k) 0 + get_or octets (2 * k + 1) 0) / 256
    ∷ (if b then get_or octets k 0 else 256 * get_or octets (2 * k) 0 + get_or octets (2 * k + 1) 0) % 256 ∷ []) ≡
    take ((k + 1) * (if b then 1 else 2)) octets
spelt_again true octets k each le = grind (arith, nat_tests, get_or, take_more)
spelt_again false octets k each le =
    let high : ℕ = get_or octets (2 * k) 0 in
    let low : ℕ = get_or octets (2 * k + 1) 0 in
    let at : k * 2 ≡ 2 * k = omega arith in
    let next : 2 * k + 1 + 1 ≡ (k + 1) * 2 = omega arith in
    let turned : 256 * high + low ≡ high * 256 + low = omega arith in
    let few : low < 256 = each (2 * k + 1) in
    let upper : (256 * high + low) / 256 ≡ high = ap (λ n. n / 256) turned ∙ div-mul-add high 256 low few in
    let lower : (256 * high + low) % 256 ≡ low = ap (λ n. n % 256) turned ∙ mod-mul-add high 256 low few in
    let two : take (2 * k + 1 + 1) octets ≡ take (2 * k) octets ++ (high ∷ low ∷ []) =
    take_more octets (2 * k + 1) 0 (omega (arith, le)) ∙ ap (λ zs. zs ++ low ∷ []) (take_more octets (2 * k) 0 (omega (arith, le)))
    ∙ append_assoc (take (2 * k) octets) (high ∷ []) (low ∷ []) in
    ap (λ n. take n octets ++ ((256 * high + low) / 256 ∷ (256 * high + low) % 256 ∷ [])) at ∙
    ap (λ n. take (2 * k) octets ++ (n ∷ (256 * high + low) % 256 ∷ [])) upper ∙ ap (λ n. take (2 * k) octets ++ (high ∷ n ∷ [])) lower ∙
    sym two ∙ ap (λ n. take n octets) next

-- the octets of the first pixels of some octets
pub pixel_octets-pixel_at : (depth : ℕ) (signed : Bool) (octets : List ℕ) (n : ℕ) → ((i : ℕ) → get_or octets i 0 < 256) → n * pixel_size depth ≤ length octets →
    pixel_octets depth (map (pixel_at depth signed octets) (range_with_len 0 n)) ≡ take (n * pixel_size depth) octets
pixel_octets-pixel_at depth signed octets zero each le = grind (arith, nat_tests)
pixel_octets-pixel_at depth signed octets (suc n) each le =
    let next : suc n ≡ n + 1 = omega arith in
    let first : 0 + n ≡ n = omega arith in
    let less : n * pixel_size depth ≤ length octets = omega (arith, le, whole_before (pixel_size depth) n (n + 1) (omega arith)) in
    let room : (n + 1) * pixel_size depth ≤ length octets = omega (arith, le) in
    let number : ℕ = number_at depth octets n in
    let spelt : number_of depth (pixel_at depth signed octets n) ≡ number =
    number_of-value_of depth signed number (octets_below (nat_le depth 8) octets n each) in
    ap (λ k. pixel_octets depth (map (pixel_at depth signed octets) (range_with_len 0 k))) next ∙ row_octets-append depth (pixel_at depth signed octets) 0 n 1 ∙
    ap (λ zs. zs ++ pixel_octets depth (map (pixel_at depth signed octets) (range_with_len (0 + n) 1)))
    (pixel_octets-pixel_at depth signed octets n each less) ∙
    ap (λ k. take (n * pixel_size depth) octets ++ pixel_octets depth (map (pixel_at depth signed octets) (range_with_len k 1))) first ∙
    ap (λ zs. take (n * pixel_size depth) octets ++ zs) (append-nil (octets_of depth (number_of depth (pixel_at depth signed octets n)))) ∙
    ap (λ k. take (n * pixel_size depth) octets ++ octets_of depth k) spelt ∙
    spelt_again (nat_le depth 8) octets n each room ∙ ap (λ k. take (k * pixel_size depth) octets) (sym next)
