-- Tests of a head one after another.
use Rattle.std.proofs.Common.{◌≡◌, ℕ, List, [], ◌∷◌, ◌++◌, refl, sym, ap, Option, None, Some, Ok, Err}
use Rattle.segment_defs.specs.declared.fault.HeadFault.{HeadFault}
use Rattle.segment_defs.specs.Reading.{first_refusal, answer, presence_tests, support_tests, depth_tests, value_tests, head_in, head_read, part_3, part_4}

-- what an answer says of the tests
pub passed : {X : Type 0} (o : Option HeadFault) (x y : X) → Ok x ≡ answer o y → o ≡ None
passed None x y e = refl
passed (Some fault) x y e = absurd cc

pub refused : {X : Type 0} (o : Option HeadFault) (fault : HeadFault) (y : X) → Err fault ≡ answer o y → o ≡ Some fault
refused None fault y e = absurd cc
refused (Some other) fault y e = cc

passed_then : (xs ys : List (Option HeadFault)) (o : Option HeadFault) → first_refusal xs ≡ None → first_refusal ys ≡ o → first_refusal (xs ++ ys) ≡ o
passed_then [] ys o e f = f
passed_then (None ∷ xs) ys o e f = passed_then xs ys o e f
passed_then (Some fault ∷ xs) ys o e f = absurd cc

refused_before : (xs ys : List (Option HeadFault)) (fault : HeadFault) → first_refusal xs ≡ Some fault → first_refusal (xs ++ ys) ≡ Some fault
refused_before [] ys fault e = absurd cc
refused_before (None ∷ xs) ys fault e = refused_before xs ys fault e
refused_before (Some other ∷ xs) ys fault e = e

-- four groups of tests
module _ (a b c d : List (Option HeadFault)) (fault : HeadFault) where
  refused_1 : first_refusal a ≡ Some fault → first_refusal (a ++ b ++ c ++ d) ≡ Some fault
  refused_1 e = refused_before (a ++ b ++ c) d fault (refused_before (a ++ b) c fault (refused_before a b fault e))

  refused_2 : first_refusal a ≡ None → first_refusal b ≡ Some fault → first_refusal (a ++ b ++ c ++ d) ≡ Some fault
  refused_2 p e = refused_before (a ++ b ++ c) d fault (refused_before (a ++ b) c fault (passed_then a b (Some fault) p e))

  refused_3 : first_refusal a ≡ None → first_refusal b ≡ None → first_refusal c ≡ Some fault → first_refusal (a ++ b ++ c ++ d) ≡ Some fault
  refused_3 p q e = refused_before (a ++ b ++ c) d fault (passed_then (a ++ b) c (Some fault) (passed_then a b None p q) e)

last_of_4 : (a b c d : List (Option HeadFault)) (o : Option HeadFault) → first_refusal a ≡ None → first_refusal b ≡ None → first_refusal c ≡ None →
    first_refusal d ≡ o → first_refusal (a ++ b ++ c ++ d) ≡ o
last_of_4 a b c d o p q r e = passed_then (a ++ b ++ c) d o (passed_then (a ++ b) c None (passed_then a b None p q) r) e

-- ---- the tests of a head

-- the four groups of tests that a reader makes of these octets
abbrev depth_tests_of : List ℕ → List (Option HeadFault)
depth_tests_of octets = depth_tests (head_in octets).depth_dc (head_in octets).depth_ac

abbrev support_tests_of : List ℕ → List (Option HeadFault)
support_tests_of octets = support_tests (part_3 octets) (part_4 octets)

module _ (octets : List ℕ) where
  pub refused_presence : (fault : HeadFault) → first_refusal (presence_tests octets) ≡ Some fault → Err fault ≡ head_read octets
  unfolding head_read
  refused_presence fault e =
      sym (ap (λ o. answer o (head_in octets)) (refused_1 (presence_tests octets) (support_tests_of octets) (depth_tests_of octets)
      (value_tests (head_in octets)) fault e))

  pub refused_support : (fault : HeadFault) → first_refusal (presence_tests octets) ≡ None → first_refusal (support_tests_of octets) ≡ Some fault →
      Err fault ≡ head_read octets
  unfolding head_read
  refused_support fault p e =
      sym (ap (λ o. answer o (head_in octets)) (refused_2 (presence_tests octets) (support_tests_of octets) (depth_tests_of octets)
      (value_tests (head_in octets)) fault p e))

  pub refused_depths : (fault : HeadFault) → first_refusal (presence_tests octets) ≡ None → first_refusal (support_tests_of octets) ≡ None →
      first_refusal (depth_tests_of octets) ≡ Some fault → Err fault ≡ head_read octets
  unfolding head_read
  refused_depths fault p q e =
      sym (ap (λ o. answer o (head_in octets)) (refused_3 (presence_tests octets) (support_tests_of octets) (depth_tests_of octets)
      (value_tests (head_in octets)) fault p q e))

  last_tests : (o : Option HeadFault) → first_refusal (presence_tests octets) ≡ None → first_refusal (support_tests_of octets) ≡ None →
      first_refusal (depth_tests_of octets) ≡ None → first_refusal (value_tests (head_in octets)) ≡ o →
      head_read octets ≡ answer o (head_in octets)
  unfolding head_read
  last_tests o p q r e = ap (λ k. answer k (head_in octets)) (last_of_4 (presence_tests octets) (support_tests_of octets) (depth_tests_of octets)
      (value_tests (head_in octets)) o p q r e)

  pub refused_values : (fault : HeadFault) → first_refusal (presence_tests octets) ≡ None → first_refusal (support_tests_of octets) ≡ None →
      first_refusal (depth_tests_of octets) ≡ None → first_refusal (value_tests (head_in octets)) ≡ Some fault → Err fault ≡ head_read octets
  refused_values fault p q r e = sym (last_tests (Some fault) p q r e)

  pub passed_all : first_refusal (presence_tests octets) ≡ None → first_refusal (support_tests_of octets) ≡ None → first_refusal (depth_tests_of octets)
      ≡ None → first_refusal (value_tests (head_in octets)) ≡ None → Ok (head_in octets) ≡ head_read octets
  passed_all p q r e = sym (last_tests None p q r e)
