-- A head agrees with the first one if each test passes.
use Rattle.std.proofs.Common.{◌≡◌, ℕ, List, ◌∷◌, refl, Bool, true, false, not, Option, None}
use Rattle.std.proofs.Common.{arith}
use Rattle.std.proofs.lemmas.Bool.Decides.{nat_tests}
use Rattle.segment_defs.specs.declared.head.SegmentHead.{SegmentHead}
use Rattle.segment_defs.specs.declared.fault.HeadFault.{HeadFault}
use Rattle.segment_defs.specs.Reading.{refused_where, first_refusal}
use Rattle.bare_text.specs.Agreement.{first_agrees, blocks_agree, last_agrees, count_agrees, image_agrees, agreement_tests}

passes : (b : Bool) (fault : HeadFault) (tests : List (Option HeadFault)) → first_refusal (refused_where (not b) fault ∷ tests) ≡ None →
    (b ≡ true) × (first_refusal tests ≡ None)
passes true fault tests e = (refl, e)
passes false fault tests e = absurd cc

-- each test passes
pub record Agrees (first : SegmentHead) (index : ℕ) (head : SegmentHead) : Type 0 where
  pub flag : first_agrees index head ≡ true
  pub blocks : blocks_agree first head ≡ true
  pub last : last_agrees first index head ≡ true
  pub count : count_agrees index head ≡ true
  pub image : image_agrees head.image first.image ≡ true

pub agrees : (first : SegmentHead) (index : ℕ) (head : SegmentHead) → first_refusal (agreement_tests first index head) ≡ None → Agrees first index head
unfolding agreement_tests
agrees first index head e =
    let a = passes (first_agrees index head) _ _ e in
    let b = passes (blocks_agree first head) _ _ a.1 in
    let c = passes (last_agrees first index head) _ _ b.1 in
    let d = passes (count_agrees index head) _ _ c.1 in
    let f = passes (image_agrees head.image first.image) _ _ d.1 in
    record { flag = a.0; blocks = b.0; last = c.0; count = d.0; image = f.0 }

passed : (b : Bool) (fault : HeadFault) (tests : List (Option HeadFault)) → b ≡ true → first_refusal tests ≡ None →
    first_refusal (refused_where (not b) fault ∷ tests) ≡ None
passed b fault tests e f = grind (arith, nat_tests)

-- a head agrees if each test passes
pub all_agree : (first : SegmentHead) (index : ℕ) (head : SegmentHead) → Agrees first index head → first_refusal (agreement_tests first index head) ≡ None
unfolding agreement_tests
all_agree first index head a =
    passed (first_agrees index head) _ _ a.flag
    (passed (blocks_agree first head) _ _ a.blocks
    (passed (last_agrees first index head) _ _ a.last
    (passed (count_agrees index head) _ _ a.count
    (passed (image_agrees head.image first.image) _ _ a.image refl))))
