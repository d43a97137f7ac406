-- A head that is completed has all parts.
use Rattle.std.proofs.Common.{◌≡◌, ℕ, ◌+◌, ◌*◌, ◌/◌, ◌%◌, ◌^◌, ◌<◌, ◌≤◌, List, [], ◌∷◌, ◌++◌, length, take, drop, Bool, true, false, ◌==◌, if◌then◌else◌}
use Rattle.std.proofs.Common.{refl, sym, ap, ◌∙◌, arith, length-append, length-drop, None, length-take-le}
use Rattle.item_defs.specs.Bits.{AreOctets}
use Rattle.item_defs.proofs.OctetBits.{octets_both, octet_alone}
use Rattle.segment_defs.specs.Fields.{number_in, is_set}
use Rattle.segment_defs.specs.Reading.{part_1_length, first_refusal, presence_tests}
use Rattle.segment_head.proofs.FieldBits.{number_in-within, number_in-read}
use Rattle.segment_defs.proofs.LaterTests.{none_absent}
use Rattle.bare_text.specs.InForce.{completed_with}

-- ---- the first octets of a completed head

-- the flags are the lowest bits of the third octet
set_flag : (a b v : ℕ) → a < 256 → b < 256 → v < 256 → (place below : ℕ) → place + below ≡ 23 → below ≤ 2 → (v / 8 * 8 + 7) / 2 ^ below % 2 ^ 1 ≡ 1 →
    number_in (a ∷ b ∷ (v / 8 * 8 + 7) ∷ []) place 1 ≡ 1
set_flag a b v la lb lv place below e le one =
    let w = v / 8 * 8 + 7 in
    let small : AreOctets (a ∷ b ∷ w ∷ []) = octets_both (a ∷ []) (b ∷ w ∷ []) (octet_alone a la)
    (octets_both (b ∷ []) (w ∷ []) (octet_alone b lb) (octet_alone w (omega (arith, lv)))) in
    let read = number_in-read (a ∷ b ∷ w ∷ []) 2 1 place 1 below small (omega arith) (omega arith) (omega arith) in
    let same : w * 1 + 0 ≡ w = omega arith in
    sym read ∙ ap (λ n. n / 2 ^ below % 2 ^ 1) same ∙ one

module _ (parts : List ℕ) (sixteen : length parts ≡ 16) where
  -- if the octets begin with these three
  module _ (a b v : ℕ) (rest : List ℕ) (small : AreOctets (a ∷ b ∷ v ∷ rest)) where
    abbrev octets : List ℕ
    octets = a ∷ b ∷ v ∷ rest

    abbrev whole : List ℕ
    whole = completed_with parts octets

    long : part_1_length octets ≤ length octets → length whole ≡ part_1_length octets + 16
    long le = by_last (is_set octets 1) le
      where
        by_last : (last : Bool) → (if last then 4 else 3) ≤ length octets →
            length ((take 2 octets ++ (v / 8 * 8 + 7) ∷ drop 3 (take (if last then 4 else 3) octets)) ++ parts) ≡ (if last then 4 else 3) + 16
        by_last true le =
            omega (
              arith,
              sixteen,
              length-append (take 2 octets ++ (v / 8 * 8 + 7) ∷ drop 3 (take 4 octets)) parts,
              length-append (take 2 octets)
                  ((v / 8 * 8 + 7) ∷ drop 3 (take 4 octets)),
              length-drop 3 (take 4 octets),
              length-take-le 4 octets le,
            )
        by_last false le =
            omega (
              arith,
              sixteen,
              length-append (take 2 octets ++ (v / 8 * 8 + 7) ∷ drop 3 (take 3 octets)) parts,
              length-append (take 2 octets)
                  ((v / 8 * 8 + 7) ∷ drop 3 (take 3 octets)),
              length-drop 3 (take 3 octets),
              length-take-le 3 octets le,
            )

    flag_there : part_1_length octets ≤ length octets → (place below : ℕ) → place + below ≡ 23 → below ≤ 2 → (v / 8 * 8 + 7) / 2 ^ below % 2 ^ 1 ≡ 1 →
        is_set whole place ≡ true
    flag_there le place below e lb set =
        let l = long le in
        let same : number_in whole place 1 ≡ number_in (a ∷ b ∷ (v / 8 * 8 + 7) ∷ []) place 1 =
        number_in-within whole 3 place 1 (omega (arith, l)) (omega (arith, e)) in
        let one = set_flag a b v (small 0 0 (omega arith)) (small 1 0 (omega arith)) (small 2 0 (omega arith)) place below e lb set in
        ap (λ n. n == 1) (same ∙ one)

    last_alike : part_1_length octets ≤ length octets → part_1_length whole ≡ part_1_length octets
    last_alike le =
        let l = long le in
        let same : number_in whole 1 1 ≡ number_in octets 1 1 = number_in-within whole 1 1 1 (omega (arith, l)) (omega arith)
        ∙ sym (number_in-within octets 1 1 1 (omega arith) (omega arith)) in
        ap (λ n. if n == 1 then 4 else 3) same

    all_there : part_1_length octets ≤ length octets → first_refusal (presence_tests whole) ≡ None
    all_there le =
        let l = long le in
        let n = last_alike le in
        none_absent whole (omega (arith, l, n)) (flag_there le 21 2 refl (omega arith) (omega arith)) (flag_there le 22 1 refl (omega arith) (omega arith))
        (flag_there le 23 0 refl (omega arith) (omega arith))

  pub parts_there : (octets : List ℕ) → AreOctets octets → 3 ≤ length octets → part_1_length octets ≤ length octets →
      first_refusal (presence_tests (completed_with parts octets)) ≡ None
  parts_there [] small three le = absurd (omega (arith, three))
  parts_there (a ∷ []) small three le = absurd (omega (arith, three))
  parts_there (a ∷ b ∷ []) small three le = absurd (omega (arith, three))
  parts_there (a ∷ b ∷ v ∷ rest) small three le = all_there a b v rest small le
