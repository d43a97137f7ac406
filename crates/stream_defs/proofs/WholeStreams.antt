-- All packets of an image, and some of them.
use Rattle.std.proofs.Common.{◌≡◌, ◌<◌, ◌+◌, ℕ, zero, suc, ℤ, List, ◌++◌, length, refl, sym, ap, subst, ◌∙◌, arith, Bool}
use Rattle.std.proofs.lemmas.Bool.Decides.{nat_tests}
use Rattle.base_122.specs.declared.setting.Setting.{Setting}
use Rattle.packet_defs.specs.Packets.{part_count, part_size}
use Rattle.stream_defs.specs.Output.{packets_before, packets_of, segment_of, segment_packets, segment_text, segments_of, used_before}
use Rattle.stream_defs.specs.Fates.{fresh, kept}
use Rattle.stream_defs.specs.Places.{parts_of, AreCoded}
use Rattle.stream_defs.specs.Chosen.{IsChoice, chosen, all_parts}
use Rattle.stream_defs.specs.StreamLaws.{SublistsKept}
use Rattle.stream_defs.proofs.Outputs.{packets_of-none, packets_of-more, packets_before-none, packets_before-more}
use Rattle.stream_defs.proofs.ChosenLaws.{chosen_kept, geometry_left}
use Rattle.stream_defs.proofs.Runs.{run-range}
use Rattle.stream_defs.proofs.SublistLaws.{all_rise, complete_where_all, complete_there, text_there, head_there}
use Rattle.packet_defs.proofs.Equations.{text_packets-is}

-- all packets are all parts
whole_choice : (reported_last : Bool) (s : Setting) (all : List (List ℤ)) (n : ℕ) → chosen reported_last s all (all_parts s all) n
    ≡ packets_of reported_last s all n
unfolding chosen packets_of
whole_choice reported_last s all n = grind (arith, nat_tests, text_packets-is)

pub all_kept : (reported_last : Bool) (s : Setting) (all : List (List ℤ)) → AreCoded s all → kept s.apid fresh (packets_of reported_last s all (segments_of s))
    ≡ packets_of reported_last s all (segments_of s)
all_kept reported_last s all are =
    let n = segments_of s in
    ap (kept s.apid fresh) (sym (whole_choice reported_last s all n))
    ∙ (chosen_kept reported_last s all are (all_parts s all) (record { each = λ index lt. all_rise reported_last s all are index }) n (omega arith)).0
    ∙ (λ i. chosen reported_last s all (λ index. run-range 0 (parts_of s all index) i) n)
    ∙ whole_choice reported_last s all n

pub sublist_kept : (reported_last : Bool) (s : Setting) (all : List (List ℤ)) (parts : ℕ → List ℕ) → AreCoded s all → IsChoice s all parts →
    SublistsKept reported_last s all parts
sublist_kept reported_last s all parts are choice = record {
  those_kept = (chosen_kept reported_last s all are parts choice (segments_of s) (omega arith)).0;
  geometry = geometry_left reported_last s all are parts choice;
  only = complete_where_all reported_last s all are parts choice;
  each = complete_there reported_last s all are parts choice;
  text = text_there reported_last s all are parts choice;
  head = head_there reported_last s all are parts choice;
}

-- ---- packets by blocks

-- the texts of the first segments have the same lengths
used_same : (s : Setting) (xs ys : List (List ℤ)) (n : ℕ) → ((index : ℕ) → index < n → segment_of s xs index ≡ segment_of s ys index) →
    used_before s xs n ≡ used_before s ys n
unfolding used_before
used_same s xs ys zero same = refl
used_same s xs ys (suc n) same = grind (arith, nat_tests, used_same s xs ys n (λ index lt. same index (omega (arith, lt))))

text_same : (s : Setting) (xs ys : List (List ℤ)) (n : ℕ) → ((index : ℕ) → index < n + 1 → segment_of s xs index ≡ segment_of s ys index) →
    segment_text s xs n ≡ segment_text s ys n
text_same s xs ys n same = grind (arith, nat_tests, used_same)

before_same : (s : Setting) (xs ys : List (List ℤ)) (n : ℕ) → ((index : ℕ) → index < n → segment_of s xs index ≡ segment_of s ys index) →
    packets_before s xs n ≡ packets_before s ys n
before_same s xs ys zero same = packets_before-none s xs ∙ sym (packets_before-none s ys)
before_same s xs ys (suc n) same =
    let text = text_same s xs ys n (λ index lt. same index (omega (arith, lt))) in
    subst (λ m. packets_before s xs m ≡ packets_before s ys m) (omega arith)
    (packets_before-more s xs n ∙ ap (λ k. k + part_count (part_size s.packet) (length (segment_text s xs n)))
    (before_same s xs ys n (λ index lt. same index (omega (arith, lt))))
    ∙ ap (λ t. packets_before s ys n + part_count (part_size s.packet) (length t)) text ∙ sym (packets_before-more s ys n))

pub same_packets : (reported_last : Bool) (s : Setting) (xs ys : List (List ℤ)) (n : ℕ) →
    ((index : ℕ) → index < n → segment_of s xs index ≡ segment_of s ys index) → packets_of reported_last s xs n ≡ packets_of reported_last s ys n
same_packets reported_last s xs ys zero same = packets_of-none reported_last s xs ∙ sym (packets_of-none reported_last s ys)
same_packets reported_last s xs ys (suc n) same =
    let earlier = λ (index : ℕ) (lt : index < n). same index (omega (arith, lt)) in
    let text = text_same s xs ys n (λ index lt. same index (omega (arith, lt))) in
    let here : segment_packets reported_last s xs n ≡ segment_packets reported_last s ys n = grind (arith, nat_tests, before_same) in
    subst (λ m. packets_of reported_last s xs m ≡ packets_of reported_last s ys m) (omega arith)
    (packets_of-more reported_last s xs n ∙ ap (λ zs. zs ++ segment_packets reported_last s xs n) (same_packets reported_last s xs ys n earlier) ∙
    ap (λ zs. packets_of reported_last s ys n ++ zs) here ∙ sym (packets_of-more reported_last s ys n))
