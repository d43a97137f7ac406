-- Parts put one after another, and split again.
use Rattle.std.proofs.Common.{◌≡◌, if◌then◌else◌, ℕ, ◌+◌, ◌≤◌, List, [], ◌++◌, length, take, drop, Bool, true, false, ◌||◌, refl, sym, ap, ◌∙◌, subst}
use Rattle.std.proofs.Common.{arith, append_assoc, length-append, length-drop, append-nil, take_at}
use Rattle.segment_defs.specs.Fields.{is_set}
use Rattle.segment_defs.specs.Reading.{part_1_length, after_part_1}
use Rattle.segment_head.specs.declared.carried.Carried.{Carried}
use Rattle.segment_head.specs.Parts.{carried_in}
use Rattle.bare_text.specs.declared.parts.PartsInForce.{PartsInForce}
use Rattle.bare_text.specs.InForce.{bare_length, second_in, third_in, fourth_in, part_or, rest_after, parts_after}
use Rattle.segment_code.proofs.TextOctets.{none_long}

-- three parts put into sixteen octets
pub three_put : (zeros s t f a b c : List ℕ) → length s ≡ 5 → length t ≡ 3 → length f ≡ 8 → length zeros ≡ 16 →
    a ≡ take 0 zeros ++ (s ++ drop (0 + length s) zeros) → b ≡ take 5 a ++ (t ++ drop (5 + length t) a) → c ≡ take 8 b ++ (f ++ drop (8 + length f) b) →
    c ≡ s ++ (t ++ f)
three_put zeros s t f a b c ls lt lf lz p q r =
    let one : take 5 a ≡ s = ap (take 5) p ∙ take_at s (drop (0 + length s) zeros) 5 ls in
    let la : length a ≡ 16 = ap length p ∙ omega (arith, ls, lz, length-append s (drop (0 + length s) zeros), length-drop (0 + length s) zeros) in
    let second : b ≡ (s ++ t) ++ drop (5 + length t) a = q ∙ ap (λ l. l ++ (t ++ drop (5 + length t) a)) one ∙ sym (append_assoc s t (drop (5 + length t) a)) in
    let two : take 8 b ≡ s ++ t = ap (take 8) second ∙ take_at (s ++ t) (drop (5 + length t) a) 8 (omega (arith, ls, lt, length-append s t)) in
    let lb : length b ≡ 16 = ap length second ∙ omega (
      arith,
      ls,
      lt,
      la,
      length-append (s ++ t) (drop (5 + length t) a),
      length-append s t,
      length-drop (5 + length t) a,
    ) in
    let none : drop (8 + length f) b ≡ [] = none_long (drop (8 + length f) b) (omega (arith, lb, lf, length-drop (8 + length f) b)) in
    r ∙ ap (λ l. l ++ (f ++ drop (8 + length f) b)) two ∙ ap (λ l. (s ++ t) ++ (f ++ l)) none ∙ ap (λ l. (s ++ t) ++ l) (append-nil f) ∙ append_assoc s t f

-- the parts after a head, as code makes them
pub parts_are : (before : PartsInForce) (octets : List ℕ) (carried : Carried) (rest second rest2 third rest3 fourth all : List ℕ) →
    carried ≡ carried_in octets → rest ≡ after_part_1 octets →
    second ≡ part_or carried.part_2 5 rest (second_in before.octets) → rest2 ≡ rest_after carried.part_2 5 rest →
    third ≡ part_or carried.part_3 3 rest2 (third_in before.octets) → rest3 ≡ rest_after carried.part_3 3 rest2 →
    fourth ≡ part_or carried.part_4 8 rest3 (fourth_in before.octets) → all ≡ second ++ (third ++ fourth) →
    record {
      carried = record {
        part_2 = carried.part_2 || before.carried.part_2;
        part_3 = carried.part_3 || before.carried.part_3;
        part_4 =
            carried.part_4 || before.carried.part_4;
      };
      octets = all;
    } ≡ parts_after before octets
parts_are before octets carried rest second rest2 third rest3 fourth all c r s t u v w e = rw (e, w, v, u, t, s, r, c) refl

-- the rest of a whole head has room for Part 4
room_by : (a b : Bool) (n : ℕ) (octets : List ℕ) → n + (if a then 5 else 0) + (if b then 3 else 0) + 8 ≤ length octets →
    8 ≤ length (rest_after b 3 (rest_after a 5 (drop n octets)))
room_by true true n octets le = omega (arith, length-drop 3 (drop 5 (drop n octets)), length-drop 5 (drop n octets), length-drop n octets, le)
room_by true false n octets le = omega (arith, length-drop 5 (drop n octets), length-drop n octets, le)
room_by false true n octets le = omega (arith, length-drop 3 (drop n octets), length-drop n octets, le)
room_by false false n octets le = omega (arith, length-drop n octets, le)

pub fourth_room : (octets : List ℕ) (carried : Carried) (rest rest2 rest3 : List ℕ) → bare_length octets ≤ length octets → carried ≡ carried_in octets →
    rest ≡ after_part_1 octets →
    rest2 ≡ rest_after carried.part_2 5 rest → rest3 ≡ rest_after carried.part_3 3 rest2 → carried.part_4 ≡ true → 8 ≤ length rest3
fourth_room octets carried rest rest2 rest3 le c r t v there =
    let is : is_set octets 23 ≡ true = ap (λ k. k.part_4) (sym c) ∙ there in
    let all : part_1_length octets + (if is_set octets 21 then 5 else 0) + (if is_set octets 22 then 3 else 0) + 8 ≤ length octets =
    subst (λ b. part_1_length octets + (if is_set octets 21 then 5 else 0) + (if is_set octets 22 then 3 else 0) + (if b then 8 else 0) ≤ length octets) is
    le in
    let same : rest3 ≡ rest_after (is_set octets 22) 3 (rest_after (is_set octets 21) 5 (after_part_1 octets)) = rw (v, t, r, c) refl in
    subst (λ l. 8 ≤ length l) (sym same) (room_by (is_set octets 21) (is_set octets 22) (part_1_length octets) octets all)
