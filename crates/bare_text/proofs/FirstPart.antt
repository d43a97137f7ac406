-- Part 1 with some flags, and with all.
use Rattle.std.proofs.Common.{◌≡◌, ℕ, ◌+◌, ◌*◌, ◌/◌, ◌^◌, ◌<◌, List, [], ◌∷◌, ◌++◌, length, take, drop, get_or, Bool, refl, sym, ap, ◌∙◌, subst, arith}
use Rattle.std.proofs.Common.{append_assoc, length-append, length-drop, flat_map, append-nil, take-append-drop, length-take-le, take_at}
use Rattle.std.proofs.lemmas.List.Concat.{flat_map-append}
use Rattle.item_defs.specs.Bits.{bits_of, value_of, octets_of}
use Rattle.item_defs.proofs.NumberBits.{bits_join, value_of-append, value_of-bits_of, value_below}
use Rattle.item_defs.proofs.OctetBits.{octets_of-first, length-octets_of}
use Rattle.segment_defs.specs.declared.head.SegmentHead.{SegmentHead}
use Rattle.segment_defs.specs.Head.{Field, field, flag, reserved, field_bits, part_1b}
use Rattle.segment_defs.specs.Reading.{part_1_length}
use Rattle.segment_head.specs.declared.carried.Carried.{Carried}
use Rattle.segment_head.specs.Parts.{all_carried, part_1}
use Rattle.segment_defs.proofs.WrittenFields.{octets_of-append, length-bits_in}
use Rattle.bare_text.specs.InForce.{whole_part_1}

module _ (h : SegmentHead) where
  abbrev before_flags : List Field
  before_flags = flag h.first ∷ flag h.last ∷ field 8 h.count ∷ field 5 h.depth_dc ∷ field 5 h.depth_ac ∷ reserved 1 ∷ []

  abbrev flags : Carried → List Field
  flags c = flag c.part_2 ∷ flag c.part_3 ∷ flag c.part_4 ∷ []

  abbrev plain : List Bool
  plain = flat_map field_bits before_flags

  abbrev set : Carried → List Bool
  set c = flat_map field_bits (flags c)

  abbrev last : List Bool
  last = flat_map field_bits (part_1b h)

  bits_are : (c : Carried) → flat_map field_bits (part_1 c h) ≡ take 16 plain ++ ((drop 16 plain ++ set c) ++ last)
  bits_are c =
      flat_map-append field_bits (before_flags ++ flags c) (part_1b h)
      ∙ ap (λ l. l ++ last) (flat_map-append field_bits before_flags (flags c) ∙ ap (λ l. l ++ set c) (sym (take-append-drop 16 plain)) ∙ append_assoc
      (take 16 plain) (drop 16 plain) (set c))
      ∙ append_assoc (take 16 plain) (drop 16 plain ++ set c) last

  long : length plain ≡ 21
  long = length-bits_in before_flags

  abbrev two : List ℕ
  two = octets_of (take 16 plain)

  pub two_long : length two ≡ 2
  two_long = length-octets_of (take 16 plain) ∙ omega (arith, length-take-le 16 plain (omega (arith, long)))

  pub octets_are : (c : Carried) → octets_of (flat_map field_bits (part_1 c h)) ≡ two ++ (value_of (drop 16 plain) * 2 ^ 3 + value_of (set c)) ∷ octets_of last
  octets_are c =
      let eight : length (drop 16 plain ++ set c) ≡ 8 = omega (
        arith,
        long,
        length-drop 16 plain,
        length-append (drop 16 plain) (set c),
        length-bits_in (flags c),
      ) in
      ap octets_of (bits_are c)
      ∙ octets_of-append 2 (take 16 plain) ((drop 16 plain ++ set c) ++ last) (length-take-le 16 plain (omega (arith, long)))
      ∙ ap (λ l. two ++ l) (octets_of-first (drop 16 plain ++ set c) last eight)
      ∙ ap (λ n. two ++ n ∷ octets_of last) (value_of-append (drop 16 plain) (set c) ∙ ap (λ n. value_of (drop 16 plain) * 2 ^ n + value_of (set c))
      (length-bits_in (flags c)))

  flags_small : (c : Carried) → value_of (set c) < 8
  flags_small c = let b = value_below (set c) in let l : length (set c) ≡ 3 = length-bits_in (flags c) in subst (λ n. value_of (set c) < 2 ^ n) l b

-- two octets, one whose lowest bits become ones, and others
set_octet : (a after others octets : List ℕ) (v n : ℕ) → length a ≡ 2 → octets ≡ (a ++ v ∷ others) ++ after → n ≡ length (a ++ v ∷ others) →
    part_1_length octets ≡ n → whole_part_1 octets ≡ a ++ (v / 8 * 8 + 7) ∷ others
set_octet [] after others octets v n e f g p = absurd (omega (arith, e))
set_octet (x ∷ []) after others octets v n e f g p = absurd (omega (arith, e))
set_octet (x ∷ y ∷ z ∷ a) after others octets v n e f g p = absurd (omega (arith, e))
set_octet (x ∷ y ∷ []) after others octets v n e f g p =
    let prefix : take n octets ≡ x ∷ y ∷ v ∷ others = ap (take n) f ∙ take_at (x ∷ y ∷ v ∷ others) after n (sym g) in
    let start : take (part_1_length octets) octets ≡ x ∷ y ∷ v ∷ others = ap (λ k. take k octets) p ∙ prefix in
    ap (λ o. take 2 o ++ (get_or o 2 0 / 8 * 8 + 7) ∷ drop 3 (take (part_1_length octets) octets)) f ∙ ap (λ o. x ∷ y ∷ (v / 8 * 8 + 7) ∷ drop 3 o) start

all_set : (h : SegmentHead) → value_of (set h all_carried) ≡ 7
all_set h =
    let one = bits_of 1 1 in
    ap value_of (ap (λ l. one ++ (one ++ l)) (append-nil one) ∙ ap (λ l. one ++ l) (bits_join 1 1 1 1 (omega arith)) ∙ bits_join 1 2 1 3 (omega arith))
    ∙ value_of-bits_of 3 7

pub whole_flags : (h : SegmentHead) (c : Carried) (octets after : List ℕ) → octets ≡ octets_of (flat_map field_bits (part_1 c h)) ++ after →
    part_1_length octets ≡ length (octets_of (flat_map field_bits (part_1 c h))) →
    whole_part_1 octets ≡ octets_of (flat_map field_bits (part_1 all_carried h))
whole_flags h c octets after e f =
    let v = value_of (drop 16 (plain h)) * 2 ^ 3 + value_of (set h c) in
    let small = flags_small h c in
    let seven : v / 8 * 8 + 7 ≡ value_of (drop 16 (plain h)) * 2 ^ 3 + 7 = omega (arith, small) in
    set_octet (two h) after (octets_of (last h)) octets v (length (two h ++ v ∷ octets_of (last h))) (two_long h)
    (e ∙ ap (λ l. l ++ after) (octets_are h c)) refl (f ∙ ap length (octets_are h c))
    ∙ ap (λ k. two h ++ k ∷ octets_of (last h)) seven ∙ sym (octets_are h all_carried ∙
    ap (λ k. two h ++ (value_of (drop 16 (plain h)) * 2 ^ 3 + k) ∷ octets_of (last h)) (all_set h))
