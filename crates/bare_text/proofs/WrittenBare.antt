-- A head with absent parts is read as it was written.
use Rattle.std.proofs.Common.{◌≡◌, ℕ, ◌+◌, ◌*◌, ◌<◌, ◌≤◌, List, [], ◌∷◌, ◌++◌, length, take, drop, Bool, true, false, not, ◌||◌, bytes_eq, if◌then◌else◌}
use Rattle.std.proofs.Common.{refl, sym, ap, ◌∙◌, subst, arith, append_assoc, length-append, Option, None, Some, Ok, flat_map, append-nil, take_at, drop_at}
use Rattle.std.proofs.lemmas.Slice.Eq.{bytes_eq-Decides}
use Rattle.std.proofs.Math.Bool.{or-true}
use Rattle.item_defs.specs.Bits.{octets_of, bits_of_octets}
use Rattle.item_defs.proofs.OctetBits.{length-octets_of}
use Rattle.segment_defs.specs.declared.head.SegmentHead.{SegmentHead}
use Rattle.segment_defs.specs.declared.fault.HeadFault.{HeadFault}
use Rattle.segment_defs.specs.declared.fault.HeadFault.TheVariants.{MissingPart}
use Rattle.segment_defs.specs.Fields.{number_in, is_set}
use Rattle.segment_defs.specs.Head.{Field, field_bits, head_bits, part_2, part_3, part_4, IsHead}
use Rattle.segment_defs.specs.Reading.{part_1_length, after_part_1, refused_where, first_refusal, head_read}
use Rattle.segment_head.specs.declared.carried.Carried.{Carried}
use Rattle.segment_head.specs.Parts.{all_carried, part_1}
use Rattle.segment_defs.proofs.WrittenFields.{octets_of-append, length-bits_in, width_of}
use Rattle.segment_head.proofs.WrittenParts.{Has, number_at, flag_of}
use Rattle.segment_head.proofs.WrittenHeads.{has_prefix, length_4, split_bits, head_undoes}
use Rattle.bare_text.specs.declared.parts.PartsInForce.{PartsInForce}
use Rattle.bare_text.specs.InForce.{second_in, third_in, fourth_in, part_or, rest_after, after_part_2, after_part_3, bare_length, parts_after}
use Rattle.bare_text.specs.InForce.{completed_with, completed}
use Rattle.bare_text.specs.Reading.{carry_tests, bare_head_read}
use Rattle.bare_text.specs.Writing.{part_octets, carried_after, fields_where, bare_head_bits}
use Rattle.bare_text.specs.Laws.{in_force, bare_head}
use Rattle.bare_text.proofs.FirstPart.{whole_flags}
use Rattle.bare_text.proofs.HeadLengths.{length_first}
use Rattle.bare_text.proofs.HeadTests.{read_last}
use Rattle.segment_code.proofs.TextOctets.{none_long}

no_bits : octets_of [] ≡ []
no_bits = none_long (octets_of []) (length-octets_of [])

-- the octets of a part that is carried, and none of one that isn't
abbrev octets_where : Bool → List Field → List ℕ
octets_where is_carried fields = if is_carried then part_octets fields else []

part_where : (b : Bool) (fields : List Field) → octets_of (flat_map field_bits (fields_where b fields)) ≡ octets_where b fields
part_where true fields = refl
part_where false fields = no_bits

-- one part, and the octets after it
module _ (b : Bool) (fields : List Field) (n : ℕ) (wide : width_of fields ≡ 8 * n) where
  split_where : (more : List Bool) → octets_of (flat_map field_bits (fields_where b fields) ++ more) ≡ octets_where b fields ++ octets_of more
  split_where more = by_flag b
    where
      by_flag : (b : Bool) → octets_of (flat_map field_bits (fields_where b fields) ++ more) ≡ octets_where b fields ++ octets_of more
      by_flag true = octets_of-append n (flat_map field_bits fields) more (length-bits_in fields ∙ wide)
      by_flag false = refl

  part_long : length (part_octets fields) ≡ n
  part_long = length-octets_of (flat_map field_bits fields) ∙ omega (arith, length-bits_in fields, wide)

  where_long : length (octets_where b fields) ≡ (if b then n else 0)
  where_long = by_flag b
    where
      by_flag : (b : Bool) → length (octets_where b fields) ≡ (if b then n else 0)
      by_flag true = part_long
      by_flag false = refl

  part_read : (rest force : List ℕ) → (b ≡ false → force ≡ part_octets fields) → part_or b n (octets_where b fields ++ rest) force ≡ part_octets fields
  part_read rest force same = by_flag b same
    where
      by_flag : (b : Bool) → (b ≡ false → force ≡ part_octets fields) → part_or b n (octets_where b fields ++ rest) force ≡ part_octets fields
      by_flag true same = take_at (part_octets fields) rest n part_long
      by_flag false same = same refl

  rest_read : (rest : List ℕ) → rest_after b n (octets_where b fields ++ rest) ≡ rest
  rest_read rest = by_flag b
    where
      by_flag : (b : Bool) → rest_after b n (octets_where b fields ++ rest) ≡ rest
      by_flag true = drop_at (part_octets fields) rest n part_long
      by_flag false = refl

-- a part that isn't carried is the one in force
same_part : (xs ys : List ℕ) → not (bytes_eq xs ys) ≡ false → xs ≡ ys
same_part xs ys e = (bytes_eq-Decides xs ys).0 (by_test (bytes_eq xs ys) e)
  where
    by_test : (b : Bool) → not b ≡ false → b ≡ true
    by_test true e = refl
    by_test false e = absurd cc

module _ (h : SegmentHead) (fits : IsHead h) (small : h.count < 256) (ten : length h.image.weights.shifts ≡ 10) (c : Carried) (force : PartsInForce)
    (second : c.part_2 ≡ false → second_in force.octets ≡ part_octets (part_2 h)) (third : c.part_3 ≡ false →
    third_in force.octets ≡ part_octets (part_3 h)) (fourth : c.part_4 ≡ false → fourth_in force.octets ≡ part_octets (part_4 h.image))
    (all : ((c.part_2 || force.carried.part_2) ≡ true) × ((c.part_3 || force.carried.part_3) ≡ true) × ((c.part_4 || force.carried.part_4) ≡ true)) where
  abbrev first : List ℕ
  first = octets_of (flat_map field_bits (part_1 c h))

  abbrev later : List ℕ
  later = octets_where c.part_2 (part_2 h) ++ (octets_where c.part_3 (part_3 h) ++ octets_where c.part_4 (part_4 h.image))

  abbrev octets : List ℕ
  octets = octets_of (bare_head_bits c h)

  wide_4 : width_of (part_4 h.image) ≡ 8 * 8
  wide_4 = sym (length-bits_in (part_4 h.image)) ∙ length_4 h.image ten

  abbrev start : ℕ
  start = if h.last then 4 else 3

  first_bits : length (flat_map field_bits (part_1 c h)) ≡ 8 * start
  first_bits = length_first c h h.last refl

  first_long : length first ≡ start
  first_long = length-octets_of (flat_map field_bits (part_1 c h)) ∙ omega (arith, first_bits)

  are : octets ≡ first ++ later
  are =
      octets_of-append start (flat_map field_bits (part_1 c h)) _ first_bits
      ∙ ap (λ l. first ++ l) (split_where c.part_2 (part_2 h) 5 refl _
      ∙ ap (λ l. octets_where c.part_2 (part_2 h) ++ l) (split_where c.part_3 (part_3 h) 3 refl _ ∙ ap (λ l. octets_where c.part_3 (part_3 h) ++ l)
      (part_where c.part_4 (part_4 h.image))))

  has : Has octets (part_1 c h) (bits_of_octets later)
  has = subst (λ o. Has o (part_1 c h) (bits_of_octets later)) (sym are) (has_prefix start (part_1 c h) later first_bits)

  last_is : is_set octets 1 ≡ h.last
  last_is = flag_of (number_in octets 1 1) h.last (number_at has 1 (omega arith))

  is_2 : is_set octets 21 ≡ c.part_2
  is_2 = flag_of (number_in octets 21 1) c.part_2 (number_at has 6 (omega arith))

  is_3 : is_set octets 22 ≡ c.part_3
  is_3 = flag_of (number_in octets 22 1) c.part_3 (number_at has 7 (omega arith))

  is_4 : is_set octets 23 ≡ c.part_4
  is_4 = flag_of (number_in octets 23 1) c.part_4 (number_at has 8 (omega arith))

  start_is : part_1_length octets ≡ start
  start_is = ap (λ b. if b then 4 else 3) last_is

  after_1 : after_part_1 octets ≡ later
  after_1 = ap (λ k. drop k octets) start_is ∙ ap (drop start) are ∙ drop_at first later start first_long

  after_2 : after_part_2 octets ≡ octets_where c.part_3 (part_3 h) ++ octets_where c.part_4 (part_4 h.image)
  after_2 = ap (λ b. rest_after b 5 (after_part_1 octets)) is_2 ∙ ap (rest_after c.part_2 5) after_1 ∙ rest_read c.part_2 (part_2 h) 5 refl _

  after_3 : after_part_3 octets ≡ octets_where c.part_4 (part_4 h.image)
  after_3 = ap (λ b. rest_after b 3 (after_part_2 octets)) is_3 ∙ ap (rest_after c.part_3 3) after_2 ∙ rest_read c.part_3 (part_3 h) 3 refl _

  parts_read : (parts_after force octets).octets ≡ part_octets (part_2 h) ++ (part_octets (part_3 h) ++ part_octets (part_4 h.image))
  parts_read =
      let two : part_or (is_set octets 21) 5 (after_part_1 octets) (second_in force.octets) ≡ part_octets (part_2 h) =
      ap (λ b. part_or b 5 (after_part_1 octets) (second_in force.octets)) is_2 ∙ ap (λ l. part_or c.part_2 5 l (second_in force.octets)) after_1
      ∙ part_read c.part_2 (part_2 h) 5 refl _ (second_in force.octets) second in
      let three : part_or (is_set octets 22) 3 (after_part_2 octets) (third_in force.octets) ≡ part_octets (part_3 h) =
      ap (λ b. part_or b 3 (after_part_2 octets) (third_in force.octets)) is_3 ∙ ap (λ l. part_or c.part_3 3 l (third_in force.octets)) after_2
      ∙ part_read c.part_3 (part_3 h) 3 refl _ (third_in force.octets) third in
      let four : part_or (is_set octets 23) 8 (after_part_3 octets) (fourth_in force.octets) ≡ part_octets (part_4 h.image) =
      ap (λ b. part_or b 8 (after_part_3 octets) (fourth_in force.octets)) is_4 ∙ ap (λ l. part_or c.part_4 8 l (fourth_in force.octets))
      (after_3 ∙ sym (append-nil (octets_where c.part_4 (part_4 h.image))))
      ∙ part_read c.part_4 (part_4 h.image) 8 wide_4 [] (fourth_in force.octets) fourth in
      rw (two, three, four) refl

  pub force_is : parts_after force octets ≡ in_force (Some h)
  force_is =
      let carried_2 : (is_set octets 21 || force.carried.part_2) ≡ true = ap (λ b. b || force.carried.part_2) is_2 ∙ all.0 in
      let carried_3 : (is_set octets 22 || force.carried.part_3) ≡ true = ap (λ b. b || force.carried.part_3) is_3 ∙ all.1 in
      let carried_4 : (is_set octets 23 || force.carried.part_4) ≡ true = ap (λ b. b || force.carried.part_4) is_4 ∙ all.2 in
      same_parts (is_set octets 21 || force.carried.part_2) (is_set octets 22 || force.carried.part_3) (is_set octets 23 || force.carried.part_4)
      (parts_after force octets).octets carried_2 carried_3 carried_4 parts_read
    where
      same_parts : (a b d : Bool) (l : List ℕ) → a ≡ true → b ≡ true → d ≡ true →
          l ≡ part_octets (part_2 h) ++ (part_octets (part_3 h) ++ part_octets (part_4 h.image)) →
          record { carried = record { part_2 = a; part_3 = b; part_4 = d }; octets = l } ≡ in_force (Some h)
      same_parts a b d l e f g i = rw (e, f, g, i) refl

  completed_is : completed force octets ≡ octets_of (head_bits h ++ [])
  completed_is =
      let one = flat_map field_bits (part_1 all_carried h) in
      let two = flat_map field_bits (part_2 h) in
      let three = flat_map field_bits (part_3 h) in
      let four = flat_map field_bits (part_4 h.image) in
      let whole = whole_flags h c octets later are (start_is ∙ sym first_long) in
      ap (λ l. completed_with l octets) parts_read
      ∙ ap (λ l. l ++ (part_octets (part_2 h) ++ (part_octets (part_3 h) ++ part_octets (part_4 h.image)))) whole
      ∙ sym (
      ap octets_of (split_bits h [] ∙ ap (λ l. one ++ (two ++ (three ++ l))) (append-nil four))
      ∙ octets_of-append start one (two ++ (three ++ four)) (length_first all_carried h h.last refl)
      ∙ ap (λ l. octets_of one ++ l) (octets_of-append 5 two (three ++ four) (length-bits_in (part_2 h)) ∙ ap (λ l. octets_of two ++ l)
      (octets_of-append 3 three four (length-bits_in (part_3 h))))
      )

  pub whole_is : bare_length octets ≡ length octets
  whole_is =
      let long : length octets ≡ start + ((if c.part_2 then 5 else 0) + ((if c.part_3 then 3 else 0) + (if c.part_4 then 8 else 0))) =
      ap length are ∙ omega (
        arith,
        first_long,
        length-append first later,
        length-append (octets_where c.part_2 (part_2 h)) (octets_where c.part_3 (part_3 h) ++ octets_where c.part_4 (part_4 h.image)),
        length-append (octets_where c.part_3 (part_3 h)) (octets_where c.part_4 (part_4 h.image)),
        where_long c.part_2 (part_2 h) 5 refl,
        where_long c.part_3 (part_3 h) 3 refl,
        where_long c.part_4 (part_4 h.image) 8 wide_4,
      ) in
      rw (start_is, is_2, is_3, is_4) (omega (arith, long))

  none_missing : first_refusal (carry_tests force octets) ≡ None
  none_missing =
      let carried_2 : (is_set octets 21 || force.carried.part_2) ≡ true = ap (λ b. b || force.carried.part_2) is_2 ∙ all.0 in
      let carried_3 : (is_set octets 22 || force.carried.part_3) ≡ true = ap (λ b. b || force.carried.part_3) is_3 ∙ all.1 in
      let carried_4 : (is_set octets 23 || force.carried.part_4) ≡ true = ap (λ b. b || force.carried.part_4) is_4 ∙ all.2 in
      three_pass (is_set octets 21 || force.carried.part_2) (is_set octets 22 || force.carried.part_3) (is_set octets 23 || force.carried.part_4)
      (MissingPart 2) (MissingPart 3) (MissingPart 4) carried_2 carried_3 carried_4
    where
      three_pass : (a b d : Bool) (p q r : HeadFault) → a ≡ true → b ≡ true → d ≡ true →
          first_refusal (refused_where (not a) p ∷ refused_where (not b) q ∷ refused_where (not d) r ∷ []) ≡ None
      three_pass a b d p q r e f g = rw (e, f, g) refl

  pub read_is : bare_head_read force octets ≡ Ok h
  read_is =
      let long : 3 ≤ length octets = at_least h.last (omega (arith, ap length are, first_long, length-append first later)) in
      read_last force octets long none_missing (omega (arith, whole_is)) ∙ ap head_read completed_is ∙ head_undoes h [] fits small ten
    where
      at_least : (last : Bool) → (if last then 4 else 3) ≤ length octets → 3 ≤ length octets
      at_least true le = omega (arith, le)
      at_least false le = le

-- ---- after the head before

module _ (h : SegmentHead) (fits : IsHead h) (small : h.count < 256) (ten : length h.image.weights.shifts ≡ 10) where
  second_of : (b : SegmentHead) → second_in (in_force (Some b)).octets ≡ part_octets (part_2 b)
  second_of b = take_at (part_octets (part_2 b)) _ 5 (part_long true (part_2 b) 5 refl)

  third_of : (b : SegmentHead) → third_in (in_force (Some b)).octets ≡ part_octets (part_3 b)
  third_of b = ap (take 3) (drop_at (part_octets (part_2 b)) _ 5 (part_long true (part_2 b) 5 refl)) ∙ take_at (part_octets (part_3 b)) _ 3
      (part_long true (part_3 b) 3 refl)

  fourth_of : (b : SegmentHead) → fourth_in (in_force (Some b)).octets ≡ part_octets (part_4 b.image)
  fourth_of b =
      let p2 = part_octets (part_2 b) in
      let p3 = part_octets (part_3 b) in
      ap (drop 8) (sym (append_assoc p2 p3 (part_octets (part_4 b.image))))
      ∙ drop_at (p2 ++ p3) (part_octets (part_4 b.image)) 8
      (omega (arith, length-append p2 p3, part_long true (part_2 b) 5 refl, part_long true (part_3 b) 3 refl))

  not_true : {A : Type 0} → true ≡ false → A
  not_true e = absurd cc

  pub read_after : (before : Option SegmentHead) → bare_head_read (in_force before) (bare_head before h) ≡ Ok h
  read_after None = read_is h fits small ten all_carried (in_force None) not_true not_true not_true (refl, refl, refl)
  read_after (Some b) =
      read_is h fits small ten (carried_after (Some b) h) (in_force (Some b)) (λ e. second_of b ∙ same_part _ _ e) (λ e. third_of b ∙ same_part _ _ e)
      (λ e. fourth_of b ∙ same_part _ _ e)
      (or-true _, or-true _, or-true _)

  pub whole_after : (before : Option SegmentHead) → bare_length (bare_head before h) ≡ length (bare_head before h)
  whole_after None = whole_is h fits small ten all_carried (in_force None) not_true not_true not_true (refl, refl, refl)
  whole_after (Some b) =
      whole_is h fits small ten (carried_after (Some b) h) (in_force (Some b)) (λ e. second_of b ∙ same_part _ _ e) (λ e. third_of b ∙ same_part _ _ e)
      (λ e. fourth_of b ∙ same_part _ _ e)
      (or-true _, or-true _, or-true _)

  pub force_after : (before : Option SegmentHead) → parts_after (in_force before) (bare_head before h) ≡ in_force (Some h)
  force_after None = force_is h fits small ten all_carried (in_force None) not_true not_true not_true (refl, refl, refl)
  force_after (Some b) =
      force_is h fits small ten (carried_after (Some b) h) (in_force (Some b)) (λ e. second_of b ∙ same_part _ _ e) (λ e. third_of b ∙ same_part _ _ e)
      (λ e. fourth_of b ∙ same_part _ _ e)
      (or-true _, or-true _, or-true _)
