-- The packets of an image, segment by segment.
use Rattle.std.proofs.Common.{◌≡◌, ℕ, zero, suc, ◌+◌, ℤ, List, [], ◌∷◌, ◌++◌, length, refl, sym, ap, ◌∙◌, subst, arith, length-append, Bool}
use Rattle.std.specs.List.{range_with_len, flat_map, sum_by}
use Rattle.std.proofs.lemmas.Grind.{flat_map-append}
use Rattle.std.proofs.lemmas.List.{append-nil, length-map}
use Rattle.std.proofs.lemmas.List.Sums.{sum_by_push}
use Rattle.std.proofs.lemmas.List.FromFn.{length-range_with_len}
use Rattle.std.proofs.lemmas.Bool.Decides.{nat_tests}
use Rattle.base_122.specs.declared.setting.Setting.{Setting}
use Rattle.packet_defs.specs.Packets.{part_count, part_size}
use Rattle.stream_defs.specs.Output.{packets_before, packets_of, segment_packets, segment_text, used_before}
use Rattle.packet_defs.proofs.Equations.{text_packets-is}

-- one more number at the end of a range
pub range_with_len-more : (a n : ℕ) → range_with_len a (n + 1) ≡ range_with_len a n ++ (a + n) ∷ []
range_with_len-more a zero = let e : a + 0 ≡ a = omega arith in rw e refl
range_with_len-more a (suc n) = grind (arith, nat_tests, range_with_len-more (a + 1) n)

-- no segment
pub packets_of-none : (reported_last : Bool) (s : Setting) (all : List (List ℤ)) → packets_of reported_last s all 0 ≡ []
unfolding packets_of
packets_of-none reported_last s all = refl

pub packets_before-none : (s : Setting) (all : List (List ℤ)) → packets_before s all 0 ≡ 0
unfolding packets_before
packets_before-none s all = refl

-- one segment more
pub packets_of-more : (reported_last : Bool) (s : Setting) (all : List (List ℤ)) (n : ℕ) → packets_of reported_last s all (n + 1)
    ≡ packets_of reported_last s all n
    ++ segment_packets reported_last s all n
unfolding packets_of
packets_of-more reported_last s all n =
    let f = segment_packets reported_last s all in
    ap (flat_map f) (range_with_len-more 0 n ∙ ap (λ k. range_with_len 0 n ++ k ∷ []) (let t : 0 + n ≡ n = omega arith in t))
    ∙ flat_map-append f (range_with_len 0 n) (n ∷ [])
    ∙ ap (λ r. flat_map f (range_with_len 0 n) ++ r) (append-nil (f n))

pub packets_before-more : (s : Setting) (all : List (List ℤ)) (n : ℕ) →
    packets_before s all (n + 1) ≡ packets_before s all n + part_count (part_size s.packet) (length (segment_text s all n))
unfolding packets_before
packets_before-more s all n =
    let f : ℕ → ℕ = λ i. part_count (part_size s.packet) (length (segment_text s all i)) in
    ap (sum_by f) (range_with_len-more 0 n ∙ ap (λ k. range_with_len 0 n ++ k ∷ []) (let t : 0 + n ≡ n = omega arith in t))
    ∙ sum_by_push f (range_with_len 0 n) n

-- the octets of the texts before
pub used_before-none : (s : Setting) (all : List (List ℤ)) → used_before s all 0 ≡ 0
unfolding used_before
used_before-none s all = refl

pub used_before-more : (s : Setting) (all : List (List ℤ)) (n : ℕ) → used_before s all (n + 1) ≡ used_before s all n + length (segment_text s all n)
unfolding used_before
used_before-more s all n = let e : n + 1 ≡ suc n = omega arith in ap (used_before s all) e

-- a text has one packet for each part
pub length-segment_packets : (reported_last : Bool) (s : Setting) (all : List (List ℤ)) (n : ℕ) →
    length (segment_packets reported_last s all n) ≡ part_count (part_size s.packet) (length (segment_text s all n))
length-segment_packets reported_last s all n = simp text_packets-is (grind (arith, nat_tests, length-map, length-range_with_len))

pub length-packets_of : (reported_last : Bool) (s : Setting) (all : List (List ℤ)) (n : ℕ) → length (packets_of reported_last s all n) ≡ packets_before s all n
length-packets_of reported_last s all zero = ap length (packets_of-none reported_last s all) ∙ sym (packets_before-none s all)
length-packets_of reported_last s all (suc n) =
    let more = ap length (packets_of-more reported_last s all n) ∙ length-append (packets_of reported_last s all n) (segment_packets reported_last s all n) in
    let before = length-packets_of reported_last s all n in
    let here = length-segment_packets reported_last s all n in
    let t : length (packets_of reported_last s all (n + 1)) ≡ packets_before s all (n + 1) = omega (arith, more, before, here, packets_before-more s all n) in
    let e : n + 1 ≡ suc n = omega arith in
    subst (λ k. length (packets_of reported_last s all k) ≡ packets_before s all k) e t
