-- A head that has all parts is only refused by the later tests.
use Rattle.std.proofs.Common.{◌<◌, ◌^◌, ◌%◌, ◌≡◌, ◌⊎◌, inl, inr, ℕ, ◌+◌, ◌≤◌, List, [], ◌∷◌, ◌++◌, length, Bool, true, false, not, nat_lt, refl, sym, ap}
use Rattle.std.proofs.Common.{subst, arith, ◌==◌, ◌||◌, ◌&&◌, Option, None, Some, Err}
use Rattle.std.proofs.lemmas.Bool.Decides.{nat_tests}
use Rattle.segment_defs.specs.declared.fault.Odd.{Odd}
use Rattle.segment_defs.specs.declared.fault.Odd.TheVariants as odd
use Rattle.segment_defs.specs.declared.fault.HeadField.{HeadField}
use Rattle.segment_defs.specs.declared.fault.HeadField.TheVariants as bad
use Rattle.segment_defs.specs.declared.fault.HeadFault.{HeadFault}
use Rattle.segment_defs.specs.declared.fault.HeadFault.TheVariants.{Unsupported, DepthTooLarge, BadValue}
use Rattle.segment_defs.specs.declared.head.SegmentHead.{SegmentHead}
use Rattle.segment_defs.specs.Head.{IsHead}
use Rattle.segment_defs.specs.Fields.{number_in, is_set}
use Rattle.segment_defs.specs.Reading.{part_1_length, part_3, part_4, head_in, head_tests, head_read, refused_where, first_refusal, is_bad_limit}
use Rattle.segment_defs.specs.Reading.{presence_tests, support_tests, depth_tests, value_tests}
use Rattle.segment_defs.proofs.HeadTests.{refused}

pub passes : (test : Bool) (fault : HeadFault) (tests : List (Option HeadFault)) → test ≡ false → first_refusal tests ≡ None →
    first_refusal (refused_where test fault ∷ tests) ≡ None
passes true fault tests e rest = absurd cc
passes false fault tests e rest = rest

pub none_absent : (o : List ℕ) → part_1_length o + 16 ≤ length o → is_set o 21 ≡ true → is_set o 22 ≡ true → is_set o 23 ≡ true →
    first_refusal (presence_tests o) ≡ None
unfolding presence_tests
none_absent o long two three four =
    let some : nat_lt (length o) 3 ≡ false = grind (arith, nat_tests) in
    let all : nat_lt (length o) (part_1_length o + 16) ≡ false = grind (arith, nat_tests) in
    passes _ _ _ some (passes _ _ _ (ap not two) (passes _ _ _ (ap not three) (passes _ _ _ (ap not four) (passes _ _ _ all refl))))

pub all_supported : (third fourth : List ℕ) → is_set fourth 0 ≡ true → is_set fourth 2 ≡ false → is_set fourth 28 ≡ false →
    (number_in fourth 29 3 % 2 == 1) ≡ false → (number_in fourth 8 20 == 0) ≡ false → (number_in third 0 20 == 0) ≡ false →
    first_refusal (support_tests third fourth) ≡ None
unfolding support_tests
all_supported third fourth integer extended transpose word width blocks =
    passes _ _ _ (ap not integer) (passes _ _ _ extended (passes _ _ _ transpose (passes _ _ _ word (passes _ _ _ width (passes _ _ _ blocks refl)))))

pub depth_passes : (h : SegmentHead) → IsHead h → first_refusal (depth_tests h.depth_dc h.depth_ac) ≡ None
unfolding depth_tests
depth_passes h ok =
    let small : (nat_lt 28 h.depth_dc || nat_lt 27 h.depth_ac) ≡ false = grind (arith, nat_tests, ok.depth_dc, ok.depth_ac) in
    passes _ _ _ small refl

good_limit : (limit word : ℕ) → (limit ≡ 0) ⊎ ((32 ≤ limit) × (limit < 2 ^ 27) × (limit % word ≡ 0)) → is_bad_limit limit word ≡ false
good_limit limit word (inl none) = rw none refl
good_limit limit word (inr some) =
    let a : (limit == 0) ≡ false = grind (arith, nat_tests, some.0) in
    let b : nat_lt limit 32 ≡ false = grind (arith, nat_tests, some.0) in
    let c : (limit % word == 0) ≡ true = grind (arith, nat_tests, some.2) in
    rw (a, b, c) refl

pub value_passes : (h : SegmentHead) → IsHead h → first_refusal (value_tests h) ≡ None
unfolding value_tests
value_passes h ok =
    let dc : (h.depth_dc == 0) ≡ false = grind (arith, nat_tests, ok.depth_dc) in
    let width : nat_lt h.image.width 17 ≡ false = grind (arith, nat_tests, ok.image.width) in
    passes _ _ _ dc (passes _ _ _ width (passes _ _ _ (good_limit h.limit h.image.word ok.limit) (passes _ _ _ (filled h.fill h.limit ok.fill) refl)))
  where
    filled : (fill : Bool) (limit : ℕ) → (fill ≡ true → limit ≡ 0 → ⊥) → (fill && (limit == 0)) ≡ false
    filled true limit f = let ne = f refl in grind (arith, nat_tests)
    filled false limit f = refl

-- ---- the tests after those of presence

abbrev EachIs : (HeadFault → Type 0) → List (Option HeadFault) → Type 0
EachIs Q [] = Unit {0}
EachIs Q (test ∷ tests) = ((fault : HeadFault) → test ≡ Some fault → Q fault) × EachIs Q tests

first_is : (Q : HeadFault → Type 0) (tests : List (Option HeadFault)) → EachIs Q tests → (fault : HeadFault) → first_refusal tests ≡ Some fault → Q fault
first_is Q [] each fault e = absurd cc
first_is Q (None ∷ tests) each fault e = first_is Q tests each.1 fault e
first_is Q (Some other ∷ tests) each fault e = each.0 fault e

of_two : (xs ys : List (Option HeadFault)) (fault : HeadFault) → first_refusal (xs ++ ys) ≡ Some fault →
    (first_refusal xs ≡ Some fault) ⊎ (first_refusal ys ≡ Some fault)
of_two [] ys fault e = inr e
of_two (None ∷ xs) ys fault e = of_two xs ys fault e
of_two (Some other ∷ xs) ys fault e = inl e

where_is : (Q : HeadFault → Type 0) (test : Bool) (name : HeadFault) → Q name → (fault : HeadFault) → refused_where test name ≡ Some fault → Q fault
where_is Q true name q fault e = subst Q (same name fault e) q
  where
    same : (a b : HeadFault) → Some a ≡ Some b → a ≡ b
    same a b e = cc
where_is Q false name q fault e = absurd cc

module _ (Q : HeadFault → Type 0) (unsupported : (o : Odd) → Q (Unsupported o)) (deep : (dc ac : ℕ) → Q (DepthTooLarge dc ac)) (value : (f : HeadField) →
    Q (BadValue f)) (o : List ℕ) where
  of_support : EachIs Q (support_tests (part_3 o) (part_4 o))
  unfolding support_tests
  of_support = (
    where_is Q _ _ (unsupported odd.Float),
    (
      where_is Q _ _ (unsupported odd.Extended),
      (
        where_is Q _ _ (unsupported odd.Transpose),
        (where_is Q _ _ (unsupported odd.WordLength), (where_is Q _ _ (unsupported odd.Width), (where_is Q _ _ (unsupported odd.Blocks), tt))),
      ),
    ),
  )

  of_depths : EachIs Q (depth_tests (head_in o).depth_dc (head_in o).depth_ac)
  unfolding depth_tests
  of_depths = (where_is Q _ _ (deep (head_in o).depth_dc (head_in o).depth_ac), tt)

  of_values : EachIs Q (value_tests (head_in o))
  unfolding value_tests
  of_values = (
    where_is Q _ _ (value bad.DepthDc),
    (
      where_is Q _ _ (value bad.Width),
      (where_is Q _ _ (value bad.Limit), (where_is Q _ _ (value bad.Fill), tt)),
    ),
  )

  tests_is : first_refusal (presence_tests o) ≡ None → (fault : HeadFault) → first_refusal (head_tests o) ≡ Some fault → Q fault
  tests_is none fault e = elim (of_two (presence_tests o ++ support_tests (part_3 o) (part_4 o) ++ depth_tests (head_in o).depth_dc (head_in o).depth_ac)
      (value_tests (head_in o)) fault e) [
        | inr last ↦ first_is Q (value_tests (head_in o)) of_values fault last
        | inl e ↦ elim (of_two (presence_tests o ++ support_tests (part_3 o) (part_4 o)) (depth_tests (head_in o).depth_dc (head_in o).depth_ac) fault e) [
          | inr depths ↦ first_is Q (depth_tests (head_in o).depth_dc (head_in o).depth_ac) of_depths fault depths
          | inl e ↦ elim (of_two (presence_tests o) (support_tests (part_3 o) (part_4 o)) fault e) [
            | inr support ↦ first_is Q (support_tests (part_3 o) (part_4 o)) of_support fault support
            | inl e ↦ absurd (not_none (first_refusal (presence_tests o)) fault none e)
          ]
        ]
      ]
    where
      not_none : (t : Option HeadFault) (fault : HeadFault) → t ≡ None → t ≡ Some fault → ⊥
      not_none t fault e f = cc

  pub later_test : first_refusal (presence_tests o) ≡ None → (fault : HeadFault) → head_read o ≡ Err fault → Q fault
  unfolding head_read
  later_test none fault e = tests_is none fault (refused (first_refusal (head_tests o)) fault (head_in o) (sym e))
