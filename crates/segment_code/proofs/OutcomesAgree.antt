-- A text with its end holds what its octets hold, if it ends with them.
use Rattle.std.proofs.Common.{◌≡◌, ◌≢◌, ℕ, ◌+◌, ◌-◌, ◌*◌, ◌/◌, ◌==◌, ◌≤◌, if◌then◌else◌, nat_lt, Bool, true, false, length, refl, arith, inl, inr, None, Err}
use Rattle.std.proofs.lemmas.Bool.{cases_lt}
use Rattle.std.proofs.lemmas.Bool.Decides.{nat_tests}
use Rattle.item_defs.specs.Padding.{rounded}
use Rattle.item_defs.proofs.Rounding.{rounded_bounds}
use Rattle.bit_pipe.specs.declared.fault.Part.{Part}
use Rattle.bit_pipe.specs.declared.fault.Part.TheVariants.{Whole, Ended}
use Rattle.segment_defs.specs.declared.head.SegmentHead.{SegmentHead}
use Rattle.segment_defs.specs.Head.{IsHead, head_length}
use Rattle.item_defs.specs.Outcomes.{Outcome, whole, cut, refused}
use Rattle.item_defs.specs.Scripts.{run}
use Rattle.segment_defs.specs.Outcomes.{short_segment, bits_read}
use Rattle.segment_defs.specs.TextOutcome.{by_length, verdict}
use Rattle.segment_defs.specs.TextWish.{segment_read}
use Rattle.segment_code.specs.TextAnswers.{gives, if_enough, whole_octets, decided}
use Rattle.segment_code.specs.Laws.{with_end, OutcomesAgree}
use Rattle.segment_code.proofs.Deciding.{Blocks}

-- a text of this number of octets after the head, of which `wanted` with the head are expected
by_octets : (size there wanted : ℕ) (part : Part) (w : Blocks) → size ≤ wanted →
    by_length (size + there) wanted w ≡ with_end there (if_enough there (wanted - size) (gives part w))
by_octets size there wanted part w le = elim (cases_lt (size + there) wanted) [
  | inl lt ↦
      let a : nat_lt (size + there) wanted ≡ true = grind (arith, nat_tests) in
      let b : nat_lt there (wanted - size) ≡ true = grind (arith, nat_tests) in
      rw (a, b) refl
  | inr ge ↦
      let a : nat_lt (size + there) wanted ≡ false = grind (arith, nat_tests) in
      let b : nat_lt there (wanted - size) ≡ false = grind (arith, nat_tests) in
      elim (cases_lt wanted (size + there)) [
        | inl more ↦
            let c : nat_lt wanted (size + there) ≡ true = grind (arith, nat_tests) in
            let d : (wanted - size == there) ≡ false = grind (arith, nat_tests) in
            rw (a, b, c, d) refl
        | inr same ↦
            let c : nat_lt wanted (size + there) ≡ false = grind (arith, nat_tests) in
            let d : (wanted - size == there) ≡ true = grind (arith, nat_tests) in
            rw (a, b, c, d) refl
      ]
]

limit_enough : (head : SegmentHead) → IsHead head → head.limit ≢ 0 → head_length head ≤ head.limit
limit_enough head fits some = elim fits.limit [
  | inl none ↦ absurd (some none)
  | inr l ↦ let few = by head.last in omega (arith, l.0, few)
]
  where
    by : (b : Bool) → (if b then 20 else 19) ≤ 20
    by true = omega arith
    by false = omega arith

-- a whole text has its head
head_within : (head : SegmentHead) → IsHead head → (used : ℕ) → head_length head ≤ whole_octets head (8 * head_length head + used)
head_within head fits used = by head.fill refl
  where
    by : (b : Bool) → head.fill ≡ b → head_length head ≤ (if b then head.limit else rounded (8 * head.image.word) (8 * head_length head + used) / 8)
    by true e = limit_enough head fits (fits.fill e)
    by false e =
        let least = (rounded_bounds (8 * head.image.word) (8 * head_length head + used) (omega (arith, fits.image.word.0))).0 in
        omega (arith, least)

pub outcomes_agree : OutcomesAgree
outcomes_agree wish head rest fits = by (run (segment_read wish head) (bits_read head rest))
  where
    size : ℕ
    size = head_length head

    by : (o : Outcome Blocks Blocks) → verdict head rest o ≡ with_end (length rest) (decided head (head_length head) (length rest) (bits_read head rest) o)
    by (whole w left) =
        let used : ℕ = length (bits_read head rest) - length left in
        by_octets (head_length head) (length rest) (whole_octets head (8 * head_length head + used)) Whole w (head_within head fits used)
    by (refused w name left) = refl
    by (cut w) = by_limit (head.limit == 0) refl
      where
        by_limit : (b : Bool) → (head.limit == 0) ≡ b → (if b then Err short_segment else by_length (head_length head + length rest) head.limit w) ≡
            with_end (length rest) (if b then None else if_enough (length rest) (head.limit - head_length head) (gives Ended w))
        by_limit true e = refl
        by_limit false e = let some : head.limit ≢ 0 = grind (arith, nat_tests) in by_octets (head_length head) (length rest) head.limit Ended w
            (limit_enough head fits some)
