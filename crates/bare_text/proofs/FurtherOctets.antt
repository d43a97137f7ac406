-- Octets after a head change nothing in it.
use Rattle.std.proofs.Common.{◌≡◌, ℕ, ◌+◌, ◌-◌, ◌*◌, ◌/◌, ◌≤◌, List, ◌∷◌, ◌++◌, inl, inr, length, take, drop, get_or, Bool, true, false, ◌||◌}
use Rattle.std.proofs.Common.{if◌then◌else◌, is_none, refl, sym, ap, ◌∙◌, subst, arith, length-append, length-drop, Option, None, Some, Ok, Err}
use Rattle.std.proofs.lemmas.Bool.{cases_lt}
use Rattle.std.proofs.lemmas.List.{take-append-le, drop-append-le, get_or_append_left}
use Rattle.segment_defs.specs.declared.head.SegmentHead.{SegmentHead}
use Rattle.segment_defs.specs.declared.fault.HeadFault.{HeadFault}
use Rattle.segment_defs.specs.declared.fault.HeadFault.TheVariants.{HeadShort}
use Rattle.segment_defs.specs.Fields.{is_set}
use Rattle.segment_defs.specs.Reading.{part_1_length, first_refusal, head_read}
use Rattle.segment_defs.proofs.ReadHeads.{read_fits}
use Rattle.bare_text.specs.declared.parts.PartsInForce.{PartsInForce}
use Rattle.bare_text.specs.InForce.{bare_length, second_in, third_in, fourth_in, part_or, rest_after, parts_after, completed, completed_with, whole_part_1}
use Rattle.bare_text.specs.Reading.{carry_tests, bare_head_read, head_octets, bare_head_in}
use Rattle.bare_text.specs.Taken.{DecidesHead}
use Rattle.bare_text.specs.Laws.{HeadEndsThere, BareHeadsEndThere}
use Rattle.bare_text.proofs.HeadTests.{flag_alike, length_alike, carry_alike, read_start, read_carry, read_last, in_short, in_there, octets_whole}
use Rattle.bare_text.proofs.HeadTests.{octets_least, octets_most}

-- ---- one part

part_more : (b : Bool) (width : ℕ) (rest more force : List ℕ) → (if b then width else 0) ≤ length rest → part_or b width (rest ++ more) force
    ≡ part_or b width rest force
part_more true width rest more force le = take-append-le width rest more le
part_more false width rest more force le = refl

rest_more : (b : Bool) (width : ℕ) (rest more : List ℕ) → (if b then width else 0) ≤ length rest →
    rest_after b width (rest ++ more) ≡ rest_after b width rest ++ more
rest_more true width rest more le = drop-append-le width rest more le
rest_more false width rest more le = refl

length_rest : (b : Bool) (width : ℕ) (rest : List ℕ) → length (rest_after b width rest) ≡ length rest - (if b then width else 0)
length_rest true width rest = length-drop width rest
length_rest false width rest = omega arith

-- the parts after a head with these flags and these octets after Part 1
abbrev parts_of : (p q r : Bool) → PartsInForce → List ℕ → PartsInForce
parts_of p q r before rest = record {
  carried = record { part_2 = p || before.carried.part_2; part_3 = q || before.carried.part_3; part_4 = r || before.carried.part_4 };
  octets =
      part_or p 5 rest (second_in before.octets)
      ++ (part_or q 3 (rest_after p 5 rest) (third_in before.octets)
      ++ part_or r 8 (rest_after q 3 (rest_after p 5 rest)) (fourth_in before.octets));
}

abbrev parts_with_octets : (p q r : Bool) → PartsInForce → List ℕ → PartsInForce
parts_with_octets p q r before octets = record {
  carried = record { part_2 = p || before.carried.part_2; part_3 = q || before.carried.part_3; part_4 = r || before.carried.part_4 };
  octets = octets;
}

parts_more : (p q r : Bool) (before : PartsInForce) (rest more : List ℕ) → (if p then 5 else 0) + (if q then 3 else 0) + (if r then 8 else 0) ≤ length rest →
    parts_of p q r before (rest ++ more) ≡ parts_of p q r before rest
parts_more p q r before rest more le =
    let second = part_more p 5 rest more (second_in before.octets) (omega (arith, le)) in
    let after = rest_more p 5 rest more (omega (arith, le)) in
    let long = length_rest p 5 rest in
    let third = ap (λ l. part_or q 3 l (third_in before.octets)) after ∙ part_more q 3 (rest_after p 5 rest) more (third_in before.octets)
    (omega (arith, le, long)) in
    let later = ap (rest_after q 3) after ∙ rest_more q 3 (rest_after p 5 rest) more (omega (arith, le, long)) in
    let longer = length_rest q 3 (rest_after p 5 rest) in
    let fourth = ap (λ l. part_or r 8 l (fourth_in before.octets)) later ∙ part_more r 8 (rest_after q 3 (rest_after p 5 rest)) more
    (fourth_in before.octets) (omega (arith, le, long, longer)) in
    let parts_with = λ (octets : List ℕ). parts_with_octets p q r before octets in
    ap (λ l. parts_with (l ++ (part_or q 3 (rest_after p 5 (rest ++ more)) (third_in before.octets) ++ part_or r 8
    (rest_after q 3 (rest_after p 5 (rest ++ more))) (fourth_in before.octets)))) second
    ∙ ap (λ l. parts_with (part_or p 5 rest (second_in before.octets) ++ (l ++ part_or r 8 (rest_after q 3 (rest_after p 5 (rest ++ more)))
    (fourth_in before.octets)))) third
    ∙ ap (λ l. parts_with (part_or p 5 rest (second_in before.octets) ++ (part_or q 3 (rest_after p 5 rest) (third_in before.octets) ++ l))) fourth

-- ---- a whole head

module _ (octets more : List ℕ) (three : 3 ≤ length octets) where
  more_three : 3 ≤ length (octets ++ more)
  more_three = let n = length-append octets more in omega (arith, n, three)

  begins : take 3 (octets ++ more) ≡ take 3 octets
  begins = take-append-le 3 octets more three

  pub further_length : bare_length (octets ++ more) ≡ bare_length octets
  further_length = length_alike (octets ++ more) octets begins more_three three

  flag : (place : ℕ) → place + 1 ≤ 8 * 3 → is_set (octets ++ more) place ≡ is_set octets place
  flag place le = flag_alike (octets ++ more) octets begins more_three three place le

  module _ (whole : bare_length octets ≤ length octets) where
    first_size : part_1_length (octets ++ more) ≡ part_1_length octets
    first_size = ap (λ b. if b then 4 else 3) (flag 1 (omega arith))

    first_there : part_1_length octets ≤ length octets
    first_there = omega (arith, whole)

    rest_is : drop (part_1_length (octets ++ more)) (octets ++ more) ≡ drop (part_1_length octets) octets ++ more
    rest_is = ap (λ n. drop n (octets ++ more)) first_size ∙ drop-append-le (part_1_length octets) octets more first_there

    pub further_parts : (before : PartsInForce) → parts_after before (octets ++ more) ≡ parts_after before octets
    further_parts before =
        let rest = drop (part_1_length octets) octets in
        ap (λ p. parts_of p (is_set (octets ++ more) 22) (is_set (octets ++ more) 23) before (drop (part_1_length (octets ++ more)) (octets ++ more)))
        (flag 21 (omega arith))
        ∙ ap (λ p. parts_of (is_set octets 21) p (is_set (octets ++ more) 23) before (drop (part_1_length (octets ++ more)) (octets ++ more)))
        (flag 22 (omega arith))
        ∙ ap (λ p. parts_of (is_set octets 21) (is_set octets 22) p before (drop (part_1_length (octets ++ more)) (octets ++ more))) (flag 23 (omega arith))
        ∙ ap (parts_of (is_set octets 21) (is_set octets 22) (is_set octets 23) before) rest_is
        ∙ parts_more (is_set octets 21) (is_set octets 22) (is_set octets 23) before rest more (let n =
        length-drop (part_1_length octets) octets in omega (arith, n, whole))

    first_same : whole_part_1 (octets ++ more) ≡ whole_part_1 octets
    first_same =
        ap (λ l. l ++ (get_or (octets ++ more) 2 0 / 8 * 8 + 7) ∷ drop 3 (take (part_1_length (octets ++ more)) (octets ++ more)))
        (take-append-le 2 octets more (omega (arith, three)))
        ∙ ap (λ n. take 2 octets ++ (n / 8 * 8 + 7) ∷ drop 3 (take (part_1_length (octets ++ more)) (octets ++ more)))
        (get_or_append_left octets more 0 2 (omega (arith, three)))
        ∙ ap (λ l. take 2 octets ++ (get_or octets 2 0 / 8 * 8 + 7) ∷ drop 3 l) (ap (λ n. take n (octets ++ more)) first_size ∙ take-append-le
        (part_1_length octets) octets more first_there)

    completed_same : (before : PartsInForce) → completed before (octets ++ more) ≡ completed before octets
    completed_same before =
        ap (λ p. completed_with p.octets (octets ++ more)) (further_parts before) ∙ ap (λ l. l ++ (parts_after before octets).octets) first_same

    pub further_read : (before : PartsInForce) → bare_head_read before (octets ++ more) ≡ bare_head_read before octets
    further_read before = by_carry (first_refusal (carry_tests before octets)) refl where
      carry : first_refusal (carry_tests before (octets ++ more)) ≡ first_refusal (carry_tests before octets)
      carry = ap first_refusal (carry_alike (octets ++ more) octets begins more_three three before)

      by_carry : (o : Option HeadFault) → first_refusal (carry_tests before octets) ≡ o → bare_head_read before (octets ++ more) ≡ bare_head_read before octets
      by_carry (Some fault) e = read_carry before (octets ++ more) fault more_three (carry ∙ e) ∙ sym (read_carry before octets fault three e)
      by_carry None e =
          let long : bare_length (octets ++ more) ≤ length (octets ++ more) =
          (let n = length-append octets more in let m = further_length in omega (arith, n, m, whole)) in
          read_last before (octets ++ more) more_three (carry ∙ e) long ∙ ap head_read (completed_same before) ∙ sym (read_last before octets three e whole)

-- ---- octets that decide a head

clash : (f : HeadFault) (h : SegmentHead) → Err f ≡ Ok h → ⊥
clash f h e = cc

module _ (before : PartsInForce) (octets : List ℕ) (le : head_octets before octets ≤ length octets) where
  three : 3 ≤ length octets
  three = let least = octets_least before octets in omega (arith, least, le)

  abbrev missing : Option HeadFault
  missing = first_refusal (carry_tests before octets)

  whole_if : missing ≡ None → bare_length octets ≤ length octets
  whole_if none = let n = octets_whole before octets none in omega (arith, n, le)

  -- a head is read only from all octets that its flags ask for
  whole_read : (head : SegmentHead) → bare_head_read before octets ≡ Ok head → bare_length octets ≤ length octets
  whole_read head read = by missing refl
    where
      by : (o : Option HeadFault) → missing ≡ o → bare_length octets ≤ length octets
      by (Some fault) e = absurd (clash fault head (sym (read_carry before octets fault three e) ∙ read))
      by None e = whole_if e

  module _ (more : List ℕ) where
    same_missing : first_refusal (carry_tests before (octets ++ more)) ≡ missing
    same_missing = ap first_refusal (carry_alike (octets ++ more) octets (begins octets more three) (more_three octets more three) three before)

    same_octets : head_octets before (octets ++ more) ≡ head_octets before octets
    same_octets = ap (λ o. if is_none o then bare_length (octets ++ more) else 3) same_missing ∙ ap (λ n. if is_none missing then n else 3)
        (further_length octets more three)

    same_read : bare_head_read before (octets ++ more) ≡ bare_head_read before octets
    same_read = by missing refl
      where
        by : (o : Option HeadFault) → missing ≡ o → bare_head_read before (octets ++ more) ≡ bare_head_read before octets
        by (Some fault) e = read_carry before (octets ++ more) fault (more_three octets more three) (same_missing ∙ e)
            ∙ sym (read_carry before octets fault three e)
        by None e = further_read octets more three (whole_if e) before

    stays_so : bare_head_in before (octets ++ more) ≡ Some (record { result = bare_head_read before octets; octets = head_octets before octets })
    stays_so =
        in_there before (octets ++ more) (let n = length-append octets more in let m = same_octets in omega (arith, n, m, le))
        ∙ ap (λ r. Some (record { result = r; octets = head_octets before (octets ++ more) })) same_read
        ∙ ap (λ n. Some (record { result = bare_head_read before octets; octets = n })) same_octets

  ends_so : HeadEndsThere before octets (record { result = bare_head_read before octets; octets = head_octets before octets })
  ends_so = record {
    least = octets_least before octets;
    most = octets_most before octets;
    enough = le;
    stays = stays_so;
    force = λ head read more. further_parts octets more three (whole_read head read) before;
    fits = λ head read. read_fits (completed before octets) head (sym (last (whole_read head read) head read) ∙ read);
  }
    where
      last : bare_length octets ≤ length octets → (head : SegmentHead) → bare_head_read before octets ≡ Ok head →
          bare_head_read before octets ≡ head_read (completed before octets)
      last whole head read = by missing refl
        where
          by : (o : Option HeadFault) → missing ≡ o → bare_head_read before octets ≡ head_read (completed before octets)
          by (Some fault) e = absurd (clash fault head (sym (read_carry before octets fault three e) ∙ read))
          by None e = read_last before octets three e whole

some_none : {A : Type 0} (a : A) (o : Option A) → o ≡ None → o ≡ Some a → ⊥
some_none a o e f = absurd cc

some_one : {A : Type 0} (a b : A) (o : Option A) → o ≡ Some a → o ≡ Some b → a ≡ b
some_one a b o e f = cc

pub heads_end_there : BareHeadsEndThere
heads_end_there before octets d e = elim (cases_lt (length octets) (head_octets before octets)) [
  | inl lt ↦ absurd (some_none d (bare_head_in before octets) (in_short before octets lt) e)
  | inr le ↦
      let is = some_one (record { result = bare_head_read before octets; octets = head_octets before octets }) d (bare_head_in before octets)
      (in_there before octets le) e in
      subst (HeadEndsThere before octets) is (ends_so before octets le)
]

-- a head whose octets are all there
pub in_whole : (before : PartsInForce) (octets : List ℕ) (head : SegmentHead) → bare_head_read before octets ≡ Ok head →
    bare_length octets ≡ length octets → DecidesHead before (Ok head) octets
in_whole before octets head read long = by (first_refusal (carry_tests before octets)) refl
  where
    three_there : 3 ≤ length octets
    three_there = elim (cases_lt (length octets) 3) [
      | inl lt ↦ absurd (clash (HeadShort (length octets)) head (sym (read_start before octets lt) ∙ read))
      | inr ge ↦ ge
    ]

    by : (o : Option HeadFault) → first_refusal (carry_tests before octets) ≡ o → DecidesHead before (Ok head) octets
    by (Some fault) e = absurd (clash fault head (sym (read_carry before octets fault three_there e) ∙ read))
    by None e =
        let n = octets_whole before octets e ∙ long in
        in_there before octets (omega (arith, n))
        ∙ ap (λ r. Some (record { result = r; octets = head_octets before octets })) read
        ∙ ap (λ m. Some (record { result = Ok head; octets = m })) n
