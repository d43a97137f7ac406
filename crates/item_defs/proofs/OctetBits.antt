-- Bits of octets, and the octets that bits fill.
use Rattle.std.proofs.Common.{◌≡◌, ℕ, zero, suc, ◌+◌, ◌*◌, ◌/◌, ◌^◌, ◌<◌, List, [], ◌∷◌, ◌++◌, length, take, drop, map, Bool, refl, sym, ap, ◌∙◌, arith}
use Rattle.std.proofs.Common.{length-append, length-drop, mod-eq_of_lt, append-nil, take_at, drop_at, drop-drop, take-append-drop, length-take-le}
use Rattle.std.specs.List.{range_with_len}
use Rattle.std.proofs.lemmas.List.Elements.{All-nil, All-cons, All-append}
use Rattle.std.proofs.lemmas.List.Concat.{flat_map-append}
use Rattle.std.proofs.lemmas.List.FromFn.{length-map-range_with_len}
use Rattle.item_defs.specs.Bits.{bits_of, value_of, AreOctets, bits_of_octets, octets_of}
use Rattle.item_defs.proofs.NumberBits.{length-bits_of, value_of-bits_of, bits_of-value_of}

pub no_octets : bits_of_octets [] ≡ []
unfolding bits_of_octets
no_octets = refl

pub octets_first : (octet : ℕ) (octets : List ℕ) → bits_of_octets (octet ∷ octets) ≡ bits_of 8 octet ++ bits_of_octets octets
unfolding bits_of_octets
octets_first octet octets = refl

pub octets_one : (octet : ℕ) → bits_of_octets (octet ∷ []) ≡ bits_of 8 octet
octets_one octet = octets_first octet [] ∙ ap (λ r. bits_of 8 octet ++ r) no_octets ∙ append-nil (bits_of 8 octet)

pub octets_append : (xs ys : List ℕ) → bits_of_octets (xs ++ ys) ≡ bits_of_octets xs ++ bits_of_octets ys
unfolding bits_of_octets
octets_append xs ys = flat_map-append (bits_of 8) xs ys

pub length-bits_of_octets : (octets : List ℕ) → length (bits_of_octets octets) ≡ 8 * length octets
length-bits_of_octets [] = ap length no_octets ∙ omega arith
length-bits_of_octets (x ∷ xs) =
    let r = length-bits_of_octets xs in
    ap length (octets_first x xs) ∙ omega (arith, length-append (bits_of 8 x) (bits_of_octets xs), length-bits_of 8 x, r)

pub length-octets_of : (bits : List Bool) → length (octets_of bits) ≡ length bits / 8
unfolding octets_of
length-octets_of bits = length-map-range_with_len (λ i. value_of (take 8 (drop (8 * i) bits))) 0 (length bits / 8)

shifted : {X : Type 0} (f g : ℕ → X) (a n : ℕ) → ((i : ℕ) → f (i + 1) ≡ g i) → map f (range_with_len (a + 1) n) ≡ map g (range_with_len a n)
shifted f g a zero same = refl
shifted f g a (suc n) same =
    let first : f (a + 1) ≡ g a = same a in
    let rest : map f (range_with_len (a + 1 + 1) n) ≡ map g (range_with_len (a + 1) n) = shifted f g (a + 1) n same in
    cc

-- the first eight bits are the first octet
pub octets_of-first : (first bits : List Bool) → length first ≡ 8 → octets_of (first ++ bits) ≡ value_of first ∷ octets_of bits
unfolding octets_of
octets_of-first first bits eight =
    let f : ℕ → ℕ = λ i. value_of (take 8 (drop (8 * i) (first ++ bits))) in
    let g : ℕ → ℕ = λ i. value_of (take 8 (drop (8 * i) bits)) in
    let count : length (first ++ bits) / 8 ≡ suc (length bits / 8) = omega (arith, length-append first bits, eight) in
    let here : take 8 (first ++ bits) ≡ first = take_at first bits 8 eight in
    let after : (i : ℕ) → f (i + 1) ≡ g i =
    λ i.
    let split : 8 * (i + 1) ≡ 8 + 8 * i = omega arith in
    let past : drop (8 + 8 * i) (first ++ bits) ≡ drop (8 * i) bits =
    sym (drop-drop (8 * i) 8 (first ++ bits)) ∙ ap (drop (8 * i)) (drop_at first bits 8 eight) in
    ap (λ k. value_of (take 8 (drop k (first ++ bits)))) split ∙ ap (λ r. value_of (take 8 r)) past
    in
    ap (λ k. map f (range_with_len 0 k)) count ∙ ap (λ r. value_of r ∷ map f (range_with_len (0 + 1) (length bits / 8))) here ∙ ap (λ r. value_of first ∷ r)
    (shifted f g 0 (length bits / 8) after)

octets_of-none : octets_of [] ≡ []
unfolding octets_of
octets_of-none = refl

pub octets_rest : (x : ℕ) (xs : List ℕ) → AreOctets (x ∷ xs) → AreOctets xs
octets_rest x xs h k d lt = h (suc k) d (omega (arith, lt))

pub octets_nil : AreOctets []
octets_nil = All-nil (λ n. n < 256)

pub octets_both : (xs ys : List ℕ) → AreOctets xs → AreOctets ys → AreOctets (xs ++ ys)
octets_both xs ys p q = All-append (λ n. n < 256) xs ys p q

pub octet_alone : (x : ℕ) → x < 256 → AreOctets (x ∷ [])
octet_alone x lt = All-cons (λ n. n < 256) x [] lt octets_nil

pub octets_of-bits_of_octets : (octets : List ℕ) → AreOctets octets → octets_of (bits_of_octets octets) ≡ octets
octets_of-bits_of_octets [] h = ap octets_of no_octets ∙ octets_of-none
octets_of-bits_of_octets (x ∷ xs) h =
    let small : x < 2 ^ 8 = h 0 0 (omega arith) in
    let first : value_of (bits_of 8 x) ≡ x = value_of-bits_of 8 x ∙ mod-eq_of_lt small in
    ap octets_of (octets_first x xs) ∙ octets_of-first (bits_of 8 x) (bits_of_octets xs) (length-bits_of 8 x) ∙ ap (λ n. n ∷ octets_of (bits_of_octets xs))
    first ∙ ap (λ r. x ∷ r) (octets_of-bits_of_octets xs (octets_rest x xs h))

pub bits_of_octets-octets_of : (bits : List Bool) (n : ℕ) → length bits ≡ 8 * n → bits_of_octets (octets_of bits) ≡ bits
bits_of_octets-octets_of [] n e = ap bits_of_octets octets_of-none ∙ no_octets
bits_of_octets-octets_of (b ∷ bits) zero e = absurd (omega arith)
bits_of_octets-octets_of (b ∷ bits) (suc n) e =
    let all : List Bool = b ∷ bits in
    let first = take 8 all in
    let rest = drop 8 all in
    let whole : first ++ rest ≡ all = take-append-drop 8 all in
    let eight : length first ≡ 8 = length-take-le 8 all (omega (arith, e)) in
    let left : length rest ≡ 8 * n = length-drop 8 all ∙ omega (arith, e) in
    let here : bits_of 8 (value_of first) ≡ first = ap (λ k. bits_of k (value_of first)) (sym eight) ∙ bits_of-value_of first in
    let there : bits_of_octets (octets_of rest) ≡ rest = bits_of_octets-octets_of rest n left in
    ap (λ r. bits_of_octets (octets_of r)) (sym whole) ∙ ap bits_of_octets (octets_of-first first rest eight) ∙ octets_first (value_of first)
    (octets_of rest) ∙ ap (λ r. r ++ bits_of_octets (octets_of rest)) here ∙ ap (λ r. first ++ r) there ∙ whole

-- the octets that bits fill are those whose bits they are
pub octets_are : (bits : List Bool) (octets : List ℕ) → AreOctets octets → bits ≡ bits_of_octets octets → octets_of bits ≡ octets
octets_are bits octets h e = ap octets_of e ∙ octets_of-bits_of_octets octets h
