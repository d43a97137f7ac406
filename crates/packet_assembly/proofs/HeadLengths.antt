-- A head that was read is whole in the octets.
use Rattle.std.proofs.Common.{◌≡◌, ◌≤◌, ◌+◌, ℕ, List, [], ◌∷◌, ◌++◌, length, refl, subst, arith, Bool, ◌==◌, if◌then◌else◌, Option, Some, None, Result, Ok}
use Rattle.std.proofs.lemmas.Bool.Decides.{nat_tests}
use Rattle.segment_defs.specs.declared.head.SegmentHead.{SegmentHead}
use Rattle.segment_defs.specs.declared.fault.HeadFault.{HeadFault}
use Rattle.segment_defs.specs.Head.{head_length}
use Rattle.segment_defs.specs.Reading.{part_1_length, first_refusal, presence_tests, answer, head_read}
use Rattle.packet_defs.specs.declared.ancillary.Ancillary.{Ancillary}
use Rattle.stream_defs.specs.declared.fate.FateState.{FateState}
use Rattle.packet_assembly.specs.Classification.{unkept, ok_of, head_known, classified}
use Rattle.packet_assembly.specs.Notes.{head_octets}
use Rattle.packet_assembly.proofs.FateSteps.{classified_ok}
use Rattle.segment_defs.proofs.Equations.{head_read-is}

before_none : (xs ys : List (Option HeadFault)) → first_refusal (xs ++ ys) ≡ None → first_refusal xs ≡ None
before_none [] ys e = refl
before_none (None ∷ xs) ys e = before_none xs ys e
before_none (Some fault ∷ xs) ys e = absurd cc

parts_whole : (octets : List ℕ) → first_refusal (presence_tests octets) ≡ None → part_1_length octets + 16 ≤ length octets
unfolding presence_tests
parts_whole octets e = grind (arith, nat_tests)

answered : (o : Option HeadFault) (h head : SegmentHead) → answer o h ≡ Ok head → (o ≡ None) × (h ≡ head)
answered o h head e = grind (arith, nat_tests)

lengths : (b : Bool) → (if b then 20 else 19) ≡ (if b then 4 else 3) + 16
lengths b = grind (arith, nat_tests)

pub head_within : (octets : List ℕ) (head : SegmentHead) → head_read octets ≡ Ok head → head_length head ≤ length octets
head_within octets head e = grind (arith, nat_tests, head_read-is, answered, parts_whole, before_none, lengths)

found_within : (text : List ℕ) (r : Result SegmentHead HeadFault) → head_read text ≡ r → head_octets (ok_of r) ≤ length text
found_within text r e = grind (arith, nat_tests, head_within)

known_within : (b : Bool) (text : List ℕ) → head_octets (if b then ok_of (head_read text) else None) ≤ length text
known_within b text = grind (arith, nat_tests, found_within)

-- so are the octets of the head in a packet that is kept
pub kept_within : (s : FateState) (flags : ℕ) (a : Ancillary) (text : List ℕ) (found : Option SegmentHead) → classified s flags a text ≡ Ok found →
    head_octets found ≤ length text
kept_within s flags a text found e =
    subst (λ h. head_octets h ≤ length text) (classified_ok (unkept s flags a text) (head_known a text) found e).1 (known_within (a.part == 0) text)
