-- Bits in masks.
use Rattle.std.proofs.Common.{◌≡◌, ◌<◌, ◌≤◌, ℕ, ◌+◌, ◌-◌, ◌*◌, ◌%◌, ◌^◌, ap, sym, ◌∙◌, arith, Bool, List, [], ◌++◌, get_or, flat_map, add-one, pow-suc}
use Rattle.std.proofs.Common.{pow_mono}
use Rattle.std.specs.Int.Count.{count_leading_zeros, leading_unique}
use Rattle.std.proofs.lemmas.Nat.{mod_low}
use Rattle.item_defs.specs.Bits.{bits_of}
use Rattle.item_defs.proofs.NumberBits.{bits_of-mod}
use Rattle.plane_defs.specs.Spans.{span}
use Rattle.plane_defs.proofs.SpanLists.{flat_map-span-none, flat_map-span-suc}
use Rattle.plane_coder.specs.Kept.{width_in, bits_in, bits_between}
use Rattle.plane_coder.proofs.Sending.{flat_map-span-below}

-- ---- bits in a mask

sealed_width : (value count : ℕ) → value < 2 ^ count → count < 64 → width_in (value + 2 ^ count) ≡ count
sealed_width value count small few =
    let double : 2 ^ (count + 1) ≡ 2 ^ count * 2 = ap (λ n. 2 ^ n) (add-one count) ∙ pow-suc 2 count in
    let zeros : 63 - count ≡ count_leading_zeros 64 (value + 2 ^ count) =
    leading_unique 64 (value + 2 ^ count) (63 - count) (count + 1) (omega (arith, few)) (omega (arith, double, small)) (omega (arith, double)) in
    omega (arith, zeros, few)

past : (count value : ℕ) → value < 2 ^ count → (value + 2 ^ count) % 2 ^ count ≡ value
past count value small =
    let same : value + 2 ^ count ≡ 1 * 2 ^ count + value = omega arith in
    ap (λ n. n % 2 ^ count) same ∙ mod_low 1 count value small

-- a place's weight, as the code computes it
pub weight_is : (n : ℕ) → n < 64 → 1 * 2 ^ n % 18446744073709551616 ≡ 2 ^ n
weight_is n few = let most : 2 ^ n ≤ 2 ^ 63 = pow_mono {i = n} {j = 63} (omega (arith, few)) in omega (arith, most)

-- some bits with a 1 before them
pub sealed_bits : (value count : ℕ) → value < 2 ^ count → count < 64 → bits_in (value + 2 ^ count) ≡ bits_of count value
sealed_bits value count small few =
    let low : (value + 2 ^ count) % 2 ^ count ≡ value = past count value small in
    ap (λ n. bits_of n (value + 2 ^ count)) (sealed_width value count small few) ∙ sym (bits_of-mod count (value + 2 ^ count)) ∙ ap (bits_of count) low

-- ---- the bits of some masks

abbrev pub bits_at : List ℕ → ℕ → List Bool
bits_at masks m = bits_in (get_or masks m 0)

pub no_masks : (masks : List ℕ) (from : ℕ) → bits_between masks from from ≡ []
no_masks masks from = let none : from - from ≡ 0 = omega arith in ap (λ n. flat_map (bits_at masks) (span from n)) none ∙ flat_map-span-none (bits_at masks)
    from

pub one_mask_more : (masks : List ℕ) (from to : ℕ) → from ≤ to → bits_between masks from (to + 1) ≡ bits_between masks from to ++ bits_at masks to
one_mask_more masks from to order =
    let more : to + 1 - from ≡ to - from + 1 = omega (arith, order) in
    let last : from + (to - from) ≡ to = omega (arith, order) in
    ap (λ n. flat_map (bits_at masks) (span from n)) more ∙ flat_map-span-suc (bits_at masks) from (to - from)
    ∙ ap (λ m. bits_between masks from to ++ bits_at masks m) last

pub same_between : (a b : List ℕ) (from to : ℕ) → ((k : ℕ) → from ≤ k → k < to → get_or a k 0 ≡ get_or b k 0) → bits_between a from to ≡ bits_between b from to
same_between a b from to same =
    flat_map-span-below (bits_at a) (bits_at b) from (to - from) (λ n lt. ap bits_in (same (from + n) (omega arith) (omega (arith, lt))))
