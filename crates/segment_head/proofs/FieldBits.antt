-- The number that octets represent, and the fields in its bits.
use Rattle.std.proofs.Common.{◌≡◌, ℕ, zero, suc, ◌+◌, ◌-◌, ◌*◌, ◌/◌, ◌%◌, ◌^◌, ◌<◌, ◌≤◌, List, [], ◌∷◌, ◌++◌, length, take, drop, get_or, sym, ap, subst}
use Rattle.std.proofs.Common.{◌∙◌, arith, inl, inr, length-drop, bit_and}
use Rattle.std.proofs.lemmas.Bool.{cases_lt}
use Rattle.std.proofs.lemmas.Nat.{and_mask, one_shl}
use Rattle.std.proofs.lemmas.List.{drop-drop, drop_at, take-append-drop, take-append-le, drop-append-le, length-take-le, get_or_past}
use Rattle.std.proofs.lemmas.List.Elements.{All-take, All-drop, All-from_get_or}
use Rattle.std.specs.Int.{div_ceil}
use Rattle.bit_pipe.proofs.WordOctets.{octets_wide}
use Rattle.byteorder.specs.Endian.{big_number, big_from}
use Rattle.byteorder.specs.Numbers.{big_from-cons, big_from-lt}
use Rattle.item_defs.specs.Bits.{bits_of, value_of, AreOctets, bits_of_octets}
use Rattle.item_defs.proofs.NumberBits.{bits_none, bits_join, take-bits_of, drop-bits_of, value_of-bits_of}
use Rattle.item_defs.proofs.OctetBits.{no_octets, octets_first, octets_append, octets_rest, length-bits_of_octets}
use Rattle.segment_defs.specs.Fields.{number_in}
use Rattle.segment_defs.proofs.Equations.{number_in-is}

octet_at : (xs : List ℕ) → AreOctets xs → (k : ℕ) → get_or xs k 0 < 256
octet_at xs h k = elim (cases_lt k (length xs)) [ inl lt ↦ h k 0 lt | inr ge ↦ omega (arith, get_or_past xs k 0 ge) ]

-- the bits of octets are those of the number that they represent
pub bits_of_big_number : (n : ℕ) (xs : List ℕ) → length xs ≡ n → AreOctets xs → bits_of_octets xs ≡ bits_of (8 * n) (big_number n xs)
bits_of_big_number zero [] e h = no_octets ∙ sym (bits_none (big_number 0 []))
bits_of_big_number zero (x ∷ xs) e h = absurd (omega arith)
bits_of_big_number (suc n) [] e h = absurd (omega arith)
bits_of_big_number (suc n) (x ∷ xs) e h =
    let rest = bits_of_big_number n xs (omega (arith, e)) (octets_rest x xs h) in
    let small : big_number n xs < 2 ^ (8 * n) = subst (λ k. big_number n xs < k) (octets_wide n) (big_from-lt 0 n xs (octet_at xs (octets_rest x xs h))) in
    let all : big_number (suc n) (x ∷ xs) ≡ x * 2 ^ (8 * n) + big_number n xs = ap (λ k. x * k + big_from 1 n (x ∷ xs)) (octets_wide n)
    ∙ ap (λ k. x * 2 ^ (8 * n) + k) (big_from-cons 0 n x xs) in
    let count : 8 + 8 * n ≡ 8 * suc n = omega arith in
    octets_first x xs ∙ ap (λ r. bits_of 8 x ++ r) rest ∙ bits_join 8 (8 * n) x (big_number n xs) small
    ∙ ap (λ k. bits_of k (x * 2 ^ (8 * n) + big_number n xs)) count ∙ ap (bits_of (8 * suc n)) (sym all)

-- the bits from a place on, among octets that begin before it
bits_after : (octets : List ℕ) (first r : ℕ) → first ≤ length octets → drop (8 * first + r) (bits_of_octets octets)
    ≡ drop r (bits_of_octets (drop first octets))
bits_after octets first r le =
    let prefix = take first octets in
    let parts : bits_of_octets octets ≡ bits_of_octets prefix ++ bits_of_octets (drop first octets) = ap bits_of_octets (sym (take-append-drop first octets))
    ∙ octets_append prefix (drop first octets) in
    let count : length (bits_of_octets prefix) ≡ 8 * first = length-bits_of_octets prefix ∙ ap (λ k. 8 * k) (length-take-le first octets le) in
    sym (drop-drop r (8 * first) (bits_of_octets octets)) ∙ ap (λ bits. drop r (drop (8 * first) bits)) parts
    ∙ ap (drop r) (drop_at (bits_of_octets prefix) (bits_of_octets (drop first octets)) (8 * first) count)

-- bits within the first n octets
bits_within : (octets : List ℕ) (n r w : ℕ) → n ≤ length octets → r + w ≤ 8 * n → take w (drop r (bits_of_octets octets))
    ≡ take w (drop r (bits_of_octets (take n octets)))
bits_within octets n r w le fit =
    let prefix = take n octets in
    let back = bits_of_octets (drop n octets) in
    let parts : bits_of_octets octets ≡ bits_of_octets prefix ++ back = ap bits_of_octets (sym (take-append-drop n octets))
    ∙ octets_append prefix (drop n octets) in
    let count : length (bits_of_octets prefix) ≡ 8 * n = length-bits_of_octets prefix ∙ ap (λ k. 8 * k) (length-take-le n octets le) in
    ap (λ bits. take w (drop r bits)) parts ∙ ap (take w) (drop-append-le r (bits_of_octets prefix) back (omega arith))
    ∙ take-append-le w (drop r (bits_of_octets prefix)) back (omega (arith, length-drop r (bits_of_octets prefix)))

-- a field within the first n octets
pub number_in-within : (octets : List ℕ) (n start width : ℕ) → n ≤ length octets → start + width ≤ 8 * n →
    number_in octets start width ≡ number_in (take n octets) start width
number_in-within octets n start width le fit = simp number_in-is (ap value_of (bits_within octets n start width le fit))

-- the number in `w` bits of n octets' number
field_of_number : (n r w below number : ℕ) → 8 * n ≡ r + (w + below) → value_of (take w (drop r (bits_of (8 * n) number))) ≡ number / 2 ^ below % 2 ^ w
field_of_number n r w below number e =
    ap (λ k. value_of (take w (drop r (bits_of k number)))) e ∙ ap (λ bits. value_of (take w bits)) (drop-bits_of r (w + below) number)
    ∙ ap value_of (take-bits_of w below number) ∙ value_of-bits_of w (number / 2 ^ below)

-- the number of a field, from the octets in which it is
pub number_in-read : (octets : List ℕ) (first n start width below : ℕ) → AreOctets octets → first + n ≤ length octets → 8 * first ≤ start →
    8 * (first + n) ≡ start + width + below →
    big_number n (take n (drop first octets)) / 2 ^ below % 2 ^ width ≡ number_in octets start width
number_in-read octets first n start width below h le from upto =
    simp number_in-is (
    let r = start - 8 * first in
    let after = drop first octets in
    let these = take n after in
    let split : 8 * first + r ≡ start = omega arith in
    let room : n ≤ length after = omega (arith, length-drop first octets) in
    let octet : AreOctets these = All-take (λ k. k < 256) n after (All-drop (λ k. k < 256) first octets h) in
    let spelt = bits_of_big_number n these (length-take-le n after room) octet in
    sym (
    ap (λ k. value_of (take width (drop k (bits_of_octets octets)))) (sym split)
    ∙ ap (λ bits. value_of (take width bits)) (bits_after octets first r (omega arith))
    ∙ ap value_of (bits_within after n r width room (omega arith))
    ∙ ap (λ bits. value_of (take width (drop r bits))) spelt
    ∙ field_of_number n r width below (big_number n these) (omega arith)
    ))

-- the same as code computes it, by a shift and a mask
pub number_in-masked : (octets : List ℕ) (start width past number : ℕ) → ((i : ℕ) → get_or octets i 0 < 256) → 1 ≤ width → width ≤ 32 →
    start + width ≤ 8 * length octets →
    past ≡ div_ceil (start + width) 8 → number ≡ big_number (past - start / 8) (take (past - start / 8) (drop (start / 8) octets)) →
    bit_and (number / 2 ^ (8 * past - (start + width))) (1 * 2 ^ width % 18446744073709551616 - 1) ≡ number_in octets start width
number_in-masked octets start width past number h low high le e f =
    let first = start / 8 in
    let n = past - first in
    let below = 8 * past - (start + width) in
    let span : (first + n ≡ past) × (start + width ≤ 8 * past) × (8 * past < start + width + 8) × (8 * first ≤ start) =
    (omega arith, omega arith, omega arith, omega arith) in
    let mask : 1 * 2 ^ width % 2 ^ 64 ≡ 2 ^ width = one_shl width 64 (omega arith) in
    ap (λ k. bit_and (number / 2 ^ below) (k - 1)) mask
    ∙ and_mask (number / 2 ^ below) width
    ∙ ap (λ k. k / 2 ^ below % 2 ^ width) f
    ∙ number_in-read octets first n start width below (All-from_get_or (λ k. k < 256) octets 0 (λ i lt. h i)) (omega (arith, span)) span.3 (omega (arith, span))
