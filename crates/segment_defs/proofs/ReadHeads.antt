-- A head that was read can be written.
use Rattle.std.proofs.Common.{◌≡◌, ℕ, ◌+◌, ◌*◌, ◌%◌, ◌^◌, ◌<◌, ◌≤◌, List, [], ◌∷◌, ◌++◌, length, take, drop, get_or, Bool, true, false, refl, subst, arith}
use Rattle.std.proofs.Common.{inl, inr, length-take, ◌==◌, ◌⊎◌, ◌≢◌, if◌then◌else◌, not, nat_lt, ◌||◌, ◌&&◌, All, Option, None, Some, Ok, pow_mono}
use Rattle.std.specs.List.{range_with_len}
use Rattle.std.proofs.lemmas.Bool.Decides.{nat_tests}
use Rattle.std.proofs.lemmas.List.Elements.{All-map, All-from_recursion}
use Rattle.item_defs.specs.Bits.{bits_of_octets}
use Rattle.item_defs.proofs.NumberBits.{value_below}
use Rattle.base_122.specs.Weights.{usual_shifts}
use Rattle.segment_defs.specs.declared.head.SegmentHead.{SegmentHead}
use Rattle.segment_defs.specs.Head.{IsHead, IsImagePart}
use Rattle.segment_defs.specs.declared.fault.Odd.TheVariants as odd
use Rattle.segment_defs.specs.declared.fault.HeadField.TheVariants as bad
use Rattle.segment_defs.specs.declared.fault.HeadFault.{HeadFault}
use Rattle.segment_defs.specs.declared.fault.HeadFault.TheVariants.{Unsupported, DepthTooLarge, BadValue}
use Rattle.segment_defs.specs.Fields.{number_in, is_set}
use Rattle.segment_defs.specs.Reading.{part_2, part_3, part_4, depth_of, word_of, custom_shifts, image_in, head_in, head_read, head_tests, answer}
use Rattle.segment_defs.specs.Reading.{refused_where, first_refusal, is_bad_limit, presence_tests, support_tests, depth_tests, value_tests}

pub number_in-below : (o : List ℕ) (start width : ℕ) → number_in o start width < 2 ^ width
unfolding number_in
number_in-below o start width =
    let bits = take width (drop start (bits_of_octets o)) in
    let short : length bits ≤ width = omega (arith, length-take width (drop start (bits_of_octets o))) in
    omega (arith, value_below bits, pow_mono {i = length bits} {j = width} short)

-- ---- tests that were passed

both : (xs ys : List (Option HeadFault)) → first_refusal (xs ++ ys) ≡ None → (first_refusal xs ≡ None) × (first_refusal ys ≡ None)
both [] ys e = (refl, e)
both (None ∷ xs) ys e = both xs ys e
both (Some fault ∷ xs) ys e = absurd cc

-- six tests were passed, and four
six_passed : (a b c d e f : Bool) (p q r s t u : HeadFault) →
    first_refusal (refused_where a p ∷ refused_where b q ∷ refused_where c r ∷ refused_where d s ∷ refused_where e t ∷ refused_where f u ∷ []) ≡ None →
    (e ≡ false) × (f ≡ false)
six_passed true b c d e f p q r s t u h = absurd cc
six_passed false true c d e f p q r s t u h = absurd cc
six_passed false false true d e f p q r s t u h = absurd cc
six_passed false false false true e f p q r s t u h = absurd cc
six_passed false false false false true f p q r s t u h = absurd cc
six_passed false false false false false true p q r s t u h = absurd cc
six_passed false false false false false false p q r s t u h = (refl, refl)

four_passed : (a b c d : Bool) (p q r s : HeadFault) →
    first_refusal (refused_where a p ∷ refused_where b q ∷ refused_where c r ∷ refused_where d s ∷ []) ≡ None →
    (a ≡ false) × (b ≡ false) × (c ≡ false) × (d ≡ false)
four_passed true b c d p q r s h = absurd cc
four_passed false true c d p q r s h = absurd cc
four_passed false false true d p q r s h = absurd cc
four_passed false false false true p q r s h = absurd cc
four_passed false false false false p q r s h = (refl, refl, refl, refl)

one_passed : (a : Bool) (p : HeadFault) → first_refusal (refused_where a p ∷ []) ≡ None → a ≡ false
one_passed true p h = absurd cc
one_passed false p h = refl

was_read : (o : Option HeadFault) (x h : SegmentHead) → answer o x ≡ Ok h → (o ≡ None) × (x ≡ h)
was_read None x h e = (refl, cc)
was_read (Some fault) x h e = absurd cc

-- what the tests of values say
pub record HasValues (o : List ℕ) : Type 0 where
  pub blocks : number_in (part_3 o) 0 20 ≢ 0
  pub depths : (nat_lt 28 (number_in o 10 5) || nat_lt 27 (number_in o 15 5)) ≡ false
  pub depth_dc : (number_in o 10 5 == 0) ≡ false
  pub width : nat_lt (number_in (part_4 o) 8 20) 17 ≡ false
  pub limit : is_bad_limit (number_in (part_2 o) 0 27) (word_of (number_in (part_4 o) 29 3)) ≡ false
  pub fill : (is_set (part_2 o) 35 && (number_in (part_2 o) 0 27 == 0)) ≡ false

not_zero : (n : ℕ) → (n == 0) ≡ false → n ≢ 0
not_zero n e z = let f : (n == 0) ≡ true = rw z refl in absurd cc

has_values : (o : List ℕ) → first_refusal (head_tests o) ≡ None → HasValues o
unfolding support_tests depth_tests value_tests
has_values o e =
    let last = both (presence_tests o ++ support_tests (part_3 o) (part_4 o) ++ depth_tests (head_in o).depth_dc (head_in o).depth_ac)
    (value_tests (head_in o)) e in
    let mid = both (presence_tests o ++ support_tests (part_3 o) (part_4 o)) (depth_tests (head_in o).depth_dc (head_in o).depth_ac) last.0 in
    let first = both (presence_tests o) (support_tests (part_3 o) (part_4 o)) mid.0 in
    let support =
    six_passed (not (is_set (part_4 o) 0)) (is_set (part_4 o) 2) (is_set (part_4 o) 28) (number_in (part_4 o) 29 3 % 2 == 1)
    (number_in (part_4 o) 8 20 == 0) (number_in (part_3 o) 0 20 == 0)
    (Unsupported odd.Float) (Unsupported odd.Extended) (Unsupported odd.Transpose) (Unsupported odd.WordLength) (Unsupported odd.Width)
    (Unsupported odd.Blocks) first.1
    in
    let values =
    four_passed (number_in o 10 5 == 0) (nat_lt (number_in (part_4 o) 8 20) 17) (is_bad_limit (number_in (part_2 o) 0 27) (word_of (number_in (part_4 o) 29 3)))
    (is_set (part_2 o) 35 && (number_in (part_2 o) 0 27 == 0)) (BadValue bad.DepthDc) (BadValue bad.Width) (BadValue bad.Limit) (BadValue bad.Fill) last.1
    in
    record {
      blocks = not_zero (number_in (part_3 o) 0 20) support.1;
      depths = one_passed (nat_lt 28 (number_in o 10 5) || nat_lt 27 (number_in o 15 5)) (DepthTooLarge (number_in o 10 5) (number_in o 15 5)) mid.1;
      depth_dc = values.0;
      width = values.1;
      limit = values.2;
      fill = values.3;
    }

-- ---- each field fits

either : (b : Bool) (m n most : ℕ) → m < most → n < most → (if b then m else n) < most
either true m n most p q = p
either false m n most p q = q

limit_fits : (limit word : ℕ) → limit < 2 ^ 27 → is_bad_limit limit word ≡ false → (limit ≡ 0) ⊎ ((32 ≤ limit) × (limit < 2 ^ 27) × (limit % word ≡ 0))
limit_fits limit word small e = elim (by_tests (limit == 0) (nat_lt limit 32) (limit % word == 0) e) [
  | inl none ↦ inl (grind (arith, nat_tests))
  | inr some ↦ inr (grind (arith, nat_tests, some.0), small, grind (arith, nat_tests, some.1))
]
  where
    by_tests : (z l m : Bool) → (not z && (l || not m)) ≡ false → (z ≡ true) ⊎ ((l ≡ false) × (m ≡ true))
    by_tests true l m h = inl refl
    by_tests false true m h = absurd cc
    by_tests false false true h = inr (refl, refl)
    by_tests false false false h = absurd cc

chosen_false : (b : Bool) (m n : ℕ) → b ≡ false → (if b then m else n) ≡ n
chosen_false true m n e = absurd cc
chosen_false false m n e = refl

chosen_true : (b : Bool) (m n : ℕ) → b ≡ true → (if b then m else n) ≡ m
chosen_true true m n e = refl
chosen_true false m n e = absurd cc

fill_fits : (fill : Bool) (limit : ℕ) → (fill && (limit == 0)) ≡ false → fill ≡ true → limit ≢ 0
fill_fits true limit h e z = not_zero limit h z
fill_fits false limit h e z = absurd cc

depth_fits : (n : ℕ) → n < 16 → (1 ≤ depth_of n) × (depth_of n ≤ 16)
depth_fits n lt = (grind (arith, nat_tests), grind (arith, nat_tests))

shifts_fit : (custom : Bool) (o : List ℕ) → All (λ shift. shift ≤ 3) (if custom then custom_shifts o else usual_shifts)
shifts_fit true o = All-map (λ shift. shift ≤ 3) (λ i. number_in o (33 + 2 * i) 2) (range_with_len 0 10) (λ k d lt. let b =
    number_in-below o (33 + 2 * get_or (range_with_len 0 10) k d) 2 in omega (arith, b))
shifts_fit false o = All-from_recursion (λ shift. shift ≤ 3) usual_shifts
    (omega arith, (omega arith, (omega arith, (omega arith, (omega arith, (omega arith, (omega arith, (omega arith, (omega arith, (omega arith, tt))))))))))

image_fits : (o : List ℕ) → nat_lt (number_in o 8 20) 17 ≡ false → IsImagePart (image_in o)
image_fits o e =
    let width = number_in-below o 8 20 in
    let word = number_in-below o 29 3 in
    let at_least : 17 ≤ number_in o 8 20 = grind (arith, nat_tests, e) in
    record {
      depth = depth_fits (number_in o 4 4) (number_in-below o 4 4);
      width = (at_least, width);
      word = (omega arith, omega (arith, word));
      weights = shifts_fit (is_set o 32) o;
    }

head_fits : (o : List ℕ) → HasValues o → IsHead (head_in o)
head_fits o v =
    let dc = not_zero (number_in o 10 5) v.depth_dc in
    let limit_below = number_in-below (part_2 o) 0 27 in
    record {
      depth_dc = (omega (arith, dc), grind (arith, nat_tests, v.depths));
      depth_ac = grind (arith, nat_tests, v.depths);
      pad_rows = either (is_set o 1) (number_in o 24 3) 0 8 (number_in-below o 24 3) (omega arith);
      pads_last = chosen_false (is_set o 1) (number_in o 24 3) 0;
      limit = limit_fits (number_in (part_2 o) 0 27) (word_of (number_in (part_4 o) 29 3)) limit_below v.limit;
      plane = either (is_set (part_2 o) 27) 0 (number_in (part_2 o) 28 5) 32 (omega arith) (number_in-below (part_2 o) 28 5);
      stage = either (is_set (part_2 o) 27) 3 (number_in (part_2 o) 33 2) 4 (omega arith) (number_in-below (part_2 o) 33 2);
      stops_at_dc = λ e. (
        chosen_true (is_set (part_2 o) 27) 0 (number_in (part_2 o) 28 5) e,
        chosen_true (is_set (part_2 o) 27) 3
            (number_in (part_2 o) 33 2) e,
      );
      fill = fill_fits (is_set (part_2 o) 35) (number_in (part_2 o) 0 27) v.fill;
      blocks = (let b = v.blocks in omega (arith, b), number_in-below (part_3 o) 0 20);
      image = image_fits (part_4 o) v.width;
    }

pub read_fits : (o : List ℕ) (h : SegmentHead) → head_read o ≡ Ok h → IsHead h
unfolding head_read
read_fits o h e = let r = was_read (first_refusal (head_tests o)) (head_in o) h e in subst IsHead r.1 (head_fits o (has_values o r.0))
