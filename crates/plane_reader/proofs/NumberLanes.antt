-- The magnitudes of a block, as they are joined of the masks of its first planes.
use Rattle.std.proofs.Common.{◌≡◌, ℕ, zero, suc, ◌+◌, ◌-◌, ◌*◌, ◌/◌, ◌%◌, ◌<◌, ◌≤◌, ◌^◌, ℤ, Bool, true, false, bit_or, List, [], ◌∷◌, length, map, get_or}
use Rattle.std.proofs.Common.{refl, ap, sym, ◌∙◌, subst, arith, ◌==◌, if◌then◌else◌, min, max}
use Rattle.std.specs.List.{range_with_len}
use Rattle.std.specs.Int.Bits.{or_zero_r}
use Rattle.std.proofs.lemmas.List.FromFn.{get_or-map-range_with_len, length-map-range_with_len, fill_by_all}
use Rattle.std.proofs.lemmas.Nat.{pow_pos, pow-add, or_comm, or_shifted, div_below, div-add-mod', mod_below, div-mul-add}
use Rattle.std.proofs.lemmas.Nat.Bits.{bit_at_above}
use Rattle.item_defs.specs.Bits.{bit, digit, value_of}
use Rattle.item_defs.proofs.Equations.{value_of-is}
use Rattle.item_defs.proofs.NumberBits.{value_of-append, value_below}
use Rattle.plane_reader.specs.declared.number_lanes.Halves.{Halves}
use Rattle.plane_reader.specs.Lanes.{part_in, with_mask, AreWhole, AddsPlane, HasPlanes}
use Rattle.block_masks.specs.Slices.{mask_in}
use Rattle.block_masks.specs.MaskedNumbers.{bits_below}
use Rattle.plane_reader.proofs.PartLanes.{none_given}
use Rattle.block_masks.proofs.MaskedNumbers.{bits_below-more, length-bits_below}

-- ---- a plane

-- the magnitude that the first planes give
abbrev pub value_to : List ℤ → (r p planes : ℕ) → ℕ
value_to cells r p planes = value_of (bits_below (mask_in cells r) p planes)

value_first : (b : Bool) (bits : List Bool) → value_of (b ∷ bits) ≡ digit b * 2 ^ length bits + value_of bits
value_first b bits = value_of-append (b ∷ []) bits ∙ ap (λ n. n * 2 ^ length bits + value_of bits) (value_of-is (b ∷ []) ∙ omega arith)

pub value_more : (cells : List ℤ) (r p plane : ℕ) → value_to cells r p (suc plane) ≡ digit (bit (mask_in cells r plane) p) * 2 ^ plane
    + value_to cells r p plane
value_more cells r p plane =
    ap value_of (bits_below-more (mask_in cells r) p plane) ∙ value_first (bit (mask_in cells r plane) p) (bits_below (mask_in cells r) p plane) ∙
    ap (λ n. digit (bit (mask_in cells r plane) p) * 2 ^ n + value_to cells r p plane) (length-bits_below (mask_in cells r) p plane)

pub value_small : (cells : List ℤ) (r p planes : ℕ) → value_to cells r p planes < 2 ^ planes
value_small cells r p planes = subst (λ n. value_to cells r p planes < 2 ^ n) (length-bits_below (mask_in cells r) p planes) (value_below (bits_below (mask_in
    cells r) p planes))

-- the planes from one on
pub from_plane : (cells : List ℤ) (r p from place : ℕ) → value_to cells r p (from + place) / 2 ^ from < 2 ^ place
from_plane cells r p from place = div_below (value_to cells r p (from + place)) (2 ^ from) (2 ^ place) (pow_pos from) (subst (λ n. value_to cells r p
    (from + place) < n) product (value_small cells r p (from + place)))
  where
    product : 2 ^ (from + place) ≡ 2 ^ place * 2 ^ from
    product = pow-add 2 from place ∙ grind arith

next_plane : (cells : List ℤ) (r p from place : ℕ) → value_to cells r p (from + (place + 1)) / 2 ^ from ≡ digit (bit (mask_in
    cells r (from + place)) p) * 2 ^ place + value_to cells r p (from + place) / 2 ^ from
next_plane cells r p from place =
    let next : from + (place + 1) ≡ suc (from + place) = omega arith in
    ap (λ n. value_to cells r p n / 2 ^ from) next ∙ ap (λ n. n / 2 ^ from) (value_more cells r p (from + place) ∙ ap (λ n. digit (bit (mask_in
    cells r (from + place)) p) * n + value_to cells r p (from + place)) (pow-add 2 from place)) ∙
    apart (digit (bit (mask_in cells r (from + place)) p)) (2 ^ from) (2 ^ place) (value_to cells r p (from + place)) (pow_pos from)
  where
    apart : (d w q v : ℕ) → 0 < w → (d * (w * q) + v) / w ≡ d * q + v / w
    apart d w q v some =
        let whole : v / w * w + v % w ≡ v = div-add-mod' v w in
        let same : d * (w * q) + v ≡ (d * q + v / w) * w + v % w = grind (arith, whole) in
        ap (λ n. n / w) same ∙ div-mul-add (d * q + v / w) w (v % w) (mod_below v w some)

-- a bit above all that are set
or_next : (b : Bool) (x place : ℕ) → x < 2 ^ place → bit_or x (if b then 2 ^ place else 0) ≡ digit b * 2 ^ place + x
or_next true x place small = or_comm x (2 ^ place) ∙ ap (λ n. bit_or n x) one ∙ or_shifted 1 place x small
  where
    one : 2 ^ place ≡ 1 * 2 ^ place
    one = omega arith
or_next false x place small = or_zero_r x ∙ omega arith

-- sixteen magnitudes are given the bits of the next plane
part_more : (cells : List ℤ) (r from place start : ℕ) {mask : ℕ} {part new : List ℕ} → part ≡ part_in cells r start from place → mask ≡ mask_in
    cells r (from + place) → new ≡ with_mask part mask start place →
    new ≡ part_in cells r start from (place + 1)
part_more cells r from place start {mask} {part} {new} was is given =
    let each = λ (k : ℕ). bit_or (get_or part k 0) (if bit mask (start + k) then 2 ^ place else 0) in
    let after = λ (k : ℕ). value_to cells r (start + k) (from + (place + 1)) / 2 ^ from in
    let before = λ (k : ℕ). value_to cells r (start + k) (from + place) / 2 ^ from in
    given ∙ fill_by_all after (map each (range_with_len 0 16)) 16 0 (length-map-range_with_len each 0 16) (λ k lt.
    let size : get_or part k 0 ≡ before k = ap (λ l. get_or l k 0) was ∙ get_or-map-range_with_len before 0 16 k k 0 lt (omega arith) in
    get_or-map-range_with_len each 0 16 k k 0 lt (omega arith) ∙
    (λ i. bit_or (size i) (if bit (is i) (start + k) then 2 ^ place else 0)) ∙
    or_next (bit (mask_in cells r (from + place)) (start + k)) (before k) place (from_plane cells r (start + k) from place) ∙
    sym (next_plane cells r (start + k) from place))

pub plane_more : {cells : List ℤ} {r from place mask : ℕ} {halves new : Halves} → HasPlanes cells r from place halves → mask ≡ mask_in
    cells r (from + place) → AddsPlane mask place halves new → HasPlanes cells r from (place + 1) new
plane_more {cells} {r} {from} {place} has is adds = record {
  first = part_more cells r from place 0 has.first is adds.first;
  second = part_more cells r from place 16 has.second is adds.second;
  third = part_more cells r from place 32 has.third is adds.third;
  fourth = part_more cells r from place 48 has.fourth is adds.fourth;
}

pub are_whole : {cells : List ℤ} {r from place : ℕ} {halves : Halves} → HasPlanes cells r from place halves → AreWhole halves
are_whole has = record { first = ap length has.first; second = ap length has.second; third = ap length has.third; fourth = ap length has.fourth }

-- no plane
none_in : (cells : List ℤ) (r start from : ℕ) → map (λ (k : ℕ). 0) (range_with_len 0 16) ≡ part_in cells r start from 0
none_in cells r start from = fill_by_all (λ k. value_to cells r (start + k) (from + 0) / 2 ^ from) (map (λ (k : ℕ). 0) (range_with_len 0 16)) 16 0 refl (λ k lt.
    get_or-map-range_with_len (λ (j : ℕ). 0) 0 16 k k 0 lt (omega arith) ∙ omega (arith, from_plane cells r (start + k) from 0))

pub no_plane : (cells : List ℤ) (r from : ℕ) {halves : Halves} → halves.first ≡ map (λ (k : ℕ). 0) (range_with_len 0 16) → halves.second ≡ halves.first →
    halves.third ≡ halves.first → halves.fourth ≡ halves.first → HasPlanes cells r from 0 halves
no_plane cells r from {halves} a b c d = record {
  first = a ∙ none_in cells r 0 from;
  second = b ∙ a ∙ none_in cells r 16 from;
  third = c ∙ a ∙ none_in cells r 32 from;
  fourth = d ∙ a ∙ none_in cells r 48 from;
}

-- ---- what a mask without a position gives

no_bits : (mask p : ℕ) → mask < 2 ^ 16 → 16 ≤ p → bit mask p ≡ false
no_bits mask p small high = ap (λ n. n == 1) (bit_at_above mask 16 p small high)

no_bit : (mask p : ℕ) → mask ≡ 0 → bit mask p ≡ false
no_bit mask p none = ap (λ n. n == 1) (bit_at_above mask 0 p (omega (arith, none)) (omega arith))

pub adds_first : {mask place : ℕ} {old : Halves} {first : List ℕ} → AreWhole old → mask < 2 ^ 16 → first ≡ with_mask old.first mask 0 place →
    AddsPlane mask place old (record { first = first; second = old.second; third = old.third; fourth = old.fourth })
adds_first {mask} {place} {old} {first} whole small given = record {
  first = given;
  second = none_given old.second mask 16 place whole.second (λ k lt. no_bits mask (16 + k) small (omega arith));
  third = none_given old.third mask 32 place whole.third (λ k lt. no_bits mask (32 + k) small (omega arith));
  fourth = none_given old.fourth mask 48 place whole.fourth (λ k lt. no_bits mask (48 + k) small (omega arith));
}

pub adds_none : {mask : ℕ} (place : ℕ) {old : Halves} → AreWhole old → mask ≡ 0 → AddsPlane mask place old old
adds_none {mask} place {old} whole none = record {
  first = none_given old.first mask 0 place whole.first (λ k lt. no_bit mask (0 + k) none);
  second = none_given old.second mask 16 place whole.second (λ k lt. no_bit mask (16 + k) none);
  third = none_given old.third mask 32 place whole.third (λ k lt. no_bit mask (32 + k) none);
  fourth = none_given old.fourth mask 48 place whole.fourth (λ k lt. no_bit mask (48 + k) none);
}

-- ---- planes whose masks are empty

empty_bit : (p : ℕ) → bit 0 p ≡ false
empty_bit p = no_bit 0 p refl

value_same : (cells : List ℤ) (r p a more : ℕ) → ((s : ℕ) → a ≤ s → s < a + more → mask_in cells r s ≡ 0) → value_to cells r p (a + more) ≡ value_to cells r p a
value_same cells r p a zero none = let same : a + 0 ≡ a = omega arith in ap (value_to cells r p) same
value_same cells r p a (suc more) none =
    let next : a + suc more ≡ suc (a + more) = omega arith in
    let off : digit (bit (mask_in cells r (a + more)) p) ≡ 0 = ap (λ m. digit (bit m p)) (none (a + more) (omega arith) (omega arith)) ∙
    ap digit (empty_bit p) in
    ap (value_to cells r p) next ∙ value_more cells r p (a + more) ∙ ap (λ d. d * 2 ^ (a + more) + value_to cells r p (a + more)) off ∙
    nothing (2 ^ (a + more)) (value_to cells r p (a + more)) ∙
    value_same cells r p a more (λ s low high. none s low (omega (arith, high)))
  where
    nothing : (w v : ℕ) → 0 * w + v ≡ v
    nothing w v = omega arith

-- the planes up to a greater number give no more
part_full : (cells : List ℤ) (r start from planes full : ℕ) → planes ≤ full → ((s : ℕ) → from + planes ≤ s → s < from + full → mask_in cells r s ≡ 0) →
    part_in cells r start from planes ≡ part_in cells r start from full
part_full cells r start from planes full le none =
    let sum : from + full ≡ from + planes + (full - planes) = omega (arith, le) in
    let each : (p : ℕ) → value_to cells r p (from + planes) ≡ value_to cells r p (from + full) = λ p. sym (ap (value_to cells r p) sum ∙
    value_same cells r p (from + planes) (full - planes) (λ s low high. none s low (omega (arith, high, le)))) in
    λ i. map (λ k. each (start + k) i / 2 ^ from) (range_with_len 0 16)

has_full : {cells : List ℤ} {r from planes : ℕ} {halves : Halves} (full : ℕ) → planes ≤ full → ((s : ℕ) → from + planes ≤ s → s < from + full → mask_in
    cells r s ≡ 0) → HasPlanes cells r from planes halves → HasPlanes cells r from full halves
has_full {cells} {r} {from} {planes} full le none has = record {
  first = has.first ∙ part_full cells r 0 from planes full le none;
  second = has.second ∙ part_full cells r 16 from planes full le none;
  third = has.third ∙ part_full cells r 32 from planes full le none;
  fourth = has.fourth ∙ part_full cells r 48 from planes full le none;
}

module _ {cells : List ℤ} {r : ℕ} {halves : Halves} (planes : ℕ) (few : planes ≤ 27) (below : (s : ℕ) → planes ≤ s → s < 27 → mask_in cells r s ≡ 0) where
  pub low_full : {n : ℕ} → n ≡ min planes 16 → HasPlanes cells r 0 n halves → HasPlanes cells r 0 16 halves
  low_full e has = has_full 16 (omega (arith, e)) (λ s low high. below s (omega (arith, e, low, high)) (omega (arith, high))) has

  pub high_full : {n : ℕ} → n ≡ max planes 16 - 16 → HasPlanes cells r 16 n halves → HasPlanes cells r 16 11 halves
  high_full e has = has_full 11 (omega (arith, e, few)) (λ s low high. below s (omega (arith, e, low)) (omega (arith, high))) has

pub high_is : (planes : ℕ) {n : ℕ} → n ≡ max planes 16 → n - 16 ≡ max planes 16 - 16
high_is planes e = ap (λ m. m - 16) e
