-- The head with absent parts that octets represent, or the first test that refuses them. (The tests and their order are this project's
-- own.)
use Rattle.std.specs.Prelude.{ℕ, ◌||◌, not, nat_lt, if◌then◌else◌, is_none, List, [], ◌∷◌, length, Option, None, Some, Result, Err}
use Rattle.segment_defs.specs.declared.head.SegmentHead.{SegmentHead}
use Rattle.segment_defs.specs.declared.fault.HeadFault.{HeadFault}
use Rattle.segment_defs.specs.declared.fault.HeadFault.TheVariants.{HeadShort, MissingPart}
use Rattle.segment_defs.specs.Fields.{is_set}
use Rattle.segment_defs.specs.Reading.{refused_where, first_refusal, head_read}
use Rattle.bare_text.specs.declared.parts.PartsInForce.{PartsInForce}
use Rattle.bare_text.specs.InForce.{bare_length, completed}

-- there is a first octet of flags
abbrev pub start_tests : List ℕ → List (Option HeadFault)
start_tests octets = refused_where (nat_lt (length octets) 3) (HeadShort (length octets)) ∷ []

-- each part is carried, or was carried before
abbrev pub carry_tests : PartsInForce → List ℕ → List (Option HeadFault)
carry_tests before octets =
    refused_where (not (is_set octets 21 || before.carried.part_2)) (MissingPart 2)
    ∷ refused_where (not (is_set octets 22 || before.carried.part_3)) (MissingPart 3)
    ∷ refused_where (not (is_set octets 23 || before.carried.part_4)) (MissingPart 4) ∷ []

-- the parts that are carried are whole
abbrev pub whole_tests : List ℕ → List (Option HeadFault)
whole_tests octets = refused_where (nat_lt (length octets) (bare_length octets)) (HeadShort (length octets)) ∷ []

-- these tests, and then this result if none refuses
abbrev pub then_read : Option HeadFault → Result SegmentHead HeadFault → Result SegmentHead HeadFault
then_read None later = later
then_read (Some fault) later = Err fault

-- The head with which the octets begin, or the first refusal: those of the completed octets are the last.
unfoldable pub bare_head_read : PartsInForce → List ℕ → Result SegmentHead HeadFault
bare_head_read before octets =
    then_read (first_refusal (start_tests octets))
    (then_read (first_refusal (carry_tests before octets))
    (then_read (first_refusal (whole_tests octets)) (head_read (completed before octets))))

-- ---- how many octets decide it

-- the third octet shows that a part is missing; otherwise all octets are needed that the flags ask for
abbrev pub head_octets : PartsInForce → List ℕ → ℕ
head_octets before octets = if is_none (first_refusal (carry_tests before octets)) then bare_length octets else 3

-- what was read, and the number of octets that decide it
pub record HeadDecided : Type 0 where
  pub result : Result SegmentHead HeadFault
  pub octets : ℕ

-- the head with which the octets begin, or its refusal, if they are enough to decide it
unfoldable pub bare_head_in : PartsInForce → List ℕ → Option HeadDecided
bare_head_in before octets =
    if nat_lt (length octets) (head_octets before octets)
    then None
    else Some (record { result = bare_head_read before octets; octets = head_octets before octets })
