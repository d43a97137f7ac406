-- The tests of a head with absent parts, one after another.
use Rattle.std.proofs.Common.{◌≡◌, ℕ, ◌+◌, ◌*◌, ◌<◌, ◌≤◌, List, [], ◌∷◌, length, take, Bool, true, false, not, nat_lt, is_none, if◌then◌else◌, ◌==◌, ◌||◌}
use Rattle.std.proofs.Common.{refl, sym, ap, ◌∙◌, subst, arith, Option, None, Some, Result, Err}
use Rattle.std.proofs.lemmas.Bool.Decides.{nat_tests}
use Rattle.segment_defs.specs.declared.head.SegmentHead.{SegmentHead}
use Rattle.segment_defs.specs.declared.fault.HeadFault.{HeadFault}
use Rattle.segment_defs.specs.declared.fault.HeadFault.TheVariants.{HeadShort, MissingPart}
use Rattle.segment_defs.specs.Fields.{number_in, is_set}
use Rattle.segment_defs.specs.Reading.{refused_where, first_refusal, head_read}
use Rattle.segment_head.proofs.FieldBits.{number_in-within}
use Rattle.bare_text.specs.declared.parts.PartsInForce.{PartsInForce}
use Rattle.bare_text.specs.InForce.{bare_length, completed}
use Rattle.bare_text.specs.Reading.{carry_tests, whole_tests, then_read, bare_head_read, head_octets, HeadDecided, bare_head_in}

-- ---- lists that begin with the same three octets

module _ (a b : List ℕ) (e : take 3 a ≡ take 3 b) (la : 3 ≤ length a) (lb : 3 ≤ length b) where
  number_alike : (start width : ℕ) → start + width ≤ 8 * 3 → number_in a start width ≡ number_in b start width
  number_alike start width le = number_in-within a 3 start width la le ∙ ap (λ l. number_in l start width) e ∙ sym (number_in-within b 3 start width lb le)

  pub flag_alike : (place : ℕ) → place + 1 ≤ 8 * 3 → is_set a place ≡ is_set b place
  flag_alike place le = ap (λ n. n == 1) (number_alike place 1 le)

  pub length_alike : bare_length a ≡ bare_length b
  length_alike = rw (flag_alike 1 (omega arith), flag_alike 21 (omega arith), flag_alike 22 (omega arith), flag_alike 23 (omega arith)) refl

  pub carry_alike : (before : PartsInForce) → carry_tests before a ≡ carry_tests before b
  carry_alike before = rw (flag_alike 21 (omega arith), flag_alike 22 (omega arith), flag_alike 23 (omega arith)) refl

-- ---- what is answered

one_refuses : (test : Bool) (fault : HeadFault) (later : Result SegmentHead HeadFault) → test ≡ true →
    then_read (first_refusal (refused_where test fault ∷ [])) later ≡ Err fault
one_refuses true fault later e = refl
one_refuses false fault later e = absurd cc

one_passes : (test : Bool) (fault : HeadFault) (later : Result SegmentHead HeadFault) → test ≡ false →
    then_read (first_refusal (refused_where test fault ∷ [])) later ≡ later
one_passes true fault later e = absurd cc
one_passes false fault later e = refl

some_refuses : (o : Option HeadFault) (fault : HeadFault) (later : Result SegmentHead HeadFault) → o ≡ Some fault → then_read o later ≡ Err fault
some_refuses o fault later e = rw e refl

none_passes : (o : Option HeadFault) (later : Result SegmentHead HeadFault) → o ≡ None → then_read o later ≡ later
none_passes o later e = rw e refl

module _ (before : PartsInForce) (octets : List ℕ) where
  abbrev after_whole : Result SegmentHead HeadFault
  after_whole = then_read (first_refusal (whole_tests octets)) (head_read (completed before octets))

  abbrev after_carry : Result SegmentHead HeadFault
  after_carry = then_read (first_refusal (carry_tests before octets)) after_whole

  pub read_start : length octets < 3 → bare_head_read before octets ≡ Err (HeadShort (length octets))
  unfolding bare_head_read
  read_start lt = one_refuses (nat_lt (length octets) 3) (HeadShort (length octets)) after_carry (grind (arith, nat_tests))

  started : 3 ≤ length octets → bare_head_read before octets ≡ after_carry
  unfolding bare_head_read
  started le = one_passes (nat_lt (length octets) 3) (HeadShort (length octets)) after_carry (grind (arith, nat_tests))

  pub read_carry : (fault : HeadFault) → 3 ≤ length octets → first_refusal (carry_tests before octets) ≡ Some fault → bare_head_read before octets ≡ Err fault
  read_carry fault le e = started le ∙ some_refuses (first_refusal (carry_tests before octets)) fault after_whole e

  carried : 3 ≤ length octets → first_refusal (carry_tests before octets) ≡ None → bare_head_read before octets ≡ after_whole
  carried le e = started le ∙ none_passes (first_refusal (carry_tests before octets)) after_whole e

  pub read_whole : 3 ≤ length octets → first_refusal (carry_tests before octets) ≡ None → length octets < bare_length octets →
      bare_head_read before octets ≡ Err (HeadShort (length octets))
  read_whole le e lt = carried le e ∙ one_refuses (nat_lt (length octets) (bare_length octets)) (HeadShort (length octets))
      (head_read (completed before octets)) (grind (arith, nat_tests))

  pub read_last : 3 ≤ length octets → first_refusal (carry_tests before octets) ≡ None → bare_length octets ≤ length octets →
      bare_head_read before octets ≡ head_read (completed before octets)
  read_last le e ge = carried le e ∙ one_passes (nat_lt (length octets) (bare_length octets)) (HeadShort (length octets))
      (head_read (completed before octets)) (grind (arith, nat_tests))

-- ---- the octets that decide

abbrev if_there : (short : Bool) → HeadDecided → Option HeadDecided
if_there short d = if short then None else Some d

all_there : (short : Bool) (d : HeadDecided) → short ≡ false → if_there short d ≡ Some d
all_there true d e = absurd cc
all_there false d e = refl

module _ (before : PartsInForce) (octets : List ℕ) where
  abbrev fault : Option HeadFault
  fault = first_refusal (carry_tests before octets)

  -- what is known if there are this number of octets, or fewer
  pub in_short : length octets < head_octets before octets → bare_head_in before octets ≡ None
  unfolding bare_head_in
  in_short lt = grind (arith, nat_tests)

  pub in_there : head_octets before octets ≤ length octets →
      bare_head_in before octets ≡ Some (record { result = bare_head_read before octets; octets = head_octets before octets })
  unfolding bare_head_in
  in_there le = all_there (nat_lt (length octets) (head_octets before octets)) (record {
    result = bare_head_read before octets;
    octets =
        head_octets before octets;
  }) (grind (arith, nat_tests))

  pub octets_missing : (missing : HeadFault) → fault ≡ Some missing → head_octets before octets ≡ 3
  octets_missing missing e = rw e refl

  pub octets_whole : fault ≡ None → head_octets before octets ≡ bare_length octets
  octets_whole e = rw e refl

  pub octets_least : 3 ≤ head_octets before octets
  octets_least = by (is_none fault)
    where
      by : (b : Bool) → 3 ≤ (if b then bare_length octets else 3)
      by true = grind (arith, nat_tests)
      by false = omega arith

  pub octets_most : head_octets before octets ≤ 20
  octets_most = by (is_none fault)
    where
      by : (b : Bool) → (if b then bare_length octets else 3) ≤ 20
      by true = grind (arith, nat_tests)
      by false = omega arith

-- a part that is missing is the name of the tests of parts
missing_by : (a b c : Bool) (p q r fault : HeadFault) (Q : HeadFault → Type 0) → Q p → Q q → Q r →
    first_refusal (refused_where a p ∷ refused_where b q ∷ refused_where c r ∷ []) ≡ Some fault → Q fault
missing_by true b c p q r fault Q u v w e = subst Q (some_of p fault e) u
  where
    some_of : (p q : HeadFault) → Some p ≡ Some q → p ≡ q
    some_of p q e = cc
missing_by false true c p q r fault Q u v w e = subst Q (some_of q fault e) v
  where
    some_of : (p q : HeadFault) → Some p ≡ Some q → p ≡ q
    some_of p q e = cc
missing_by false false true p q r fault Q u v w e = subst Q (some_of r fault e) w
  where
    some_of : (p q : HeadFault) → Some p ≡ Some q → p ≡ q
    some_of p q e = cc
missing_by false false false p q r fault Q u v w e = absurd cc

pub is_missing : (before : PartsInForce) (octets : List ℕ) (fault : HeadFault) (Q : HeadFault → Type 0) → ((part : ℕ) → Q (MissingPart part)) →
    first_refusal (carry_tests before octets) ≡ Some fault → Q fault
is_missing before octets fault Q u e =
    missing_by (not (is_set octets 21 || before.carried.part_2)) (not (is_set octets 22 || before.carried.part_3))
    (not (is_set octets 23 || before.carried.part_4))
    (MissingPart 2) (MissingPart 3) (MissingPart 4) fault Q (u 2) (u 3) (u 4) e
