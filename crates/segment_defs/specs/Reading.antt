-- What octets say as a segment's head, and the tests that refuse them (CCSDS 122.0-B-2, section 4.2, for the fields; the
-- tests, their order, the patterns of the code word length and the meaning of a limit of 0 are this project's own).
use Rattle.std.specs.Prelude.{ℕ, ◌+◌, ◌*◌, ◌/◌, ◌%◌, ◌==◌, ◌&&◌, ◌||◌, Bool, not, nat_lt, if◌then◌else◌, List, [], ◌∷◌, ◌++◌, length, map, take, drop}
use Rattle.std.specs.Prelude.{Option, None, Some, Result, Ok, Err}
use Rattle.std.specs.List.{range_with_len}
use Rattle.base_122.specs.Weights.{usual_shifts}
use Rattle.base_122.specs.declared.setting.Stop.{Stop}
use Rattle.base_122.specs.declared.weights.Weights.{Weights}
use Rattle.segment_defs.specs.declared.head.SegmentHead.{SegmentHead}
use Rattle.segment_defs.specs.declared.head.ImagePart.{ImagePart}
use Rattle.segment_defs.specs.declared.fault.Odd.TheVariants as odd
use Rattle.segment_defs.specs.declared.fault.HeadField.TheVariants as bad
use Rattle.segment_defs.specs.declared.fault.HeadFault.{HeadFault}
use Rattle.segment_defs.specs.declared.fault.HeadFault.TheVariants.{HeadShort, MissingPart, Unsupported, DepthTooLarge, BadValue}
use Rattle.segment_defs.specs.Fields.{number_in, is_set}

-- ---- the parts

-- octets of Part 1: 1A, and 1B only in the last segment
abbrev pub part_1_length : List ℕ → ℕ
part_1_length octets = if is_set octets 1 then 4 else 3

-- the octets after Part 1
abbrev pub after_part_1 : List ℕ → List ℕ
after_part_1 octets = drop (part_1_length octets) octets

abbrev pub part_2 : List ℕ → List ℕ
part_2 octets = take 5 (after_part_1 octets)

abbrev pub part_3 : List ℕ → List ℕ
part_3 octets = take 3 (drop 5 (after_part_1 octets))

abbrev pub part_4 : List ℕ → List ℕ
part_4 octets = take 8 (drop 8 (after_part_1 octets))

-- ---- what the fields say

-- the depth of pixels; 0 represents 16
abbrev pub depth_of : ℕ → ℕ
depth_of pattern = if pattern == 0 then 16 else pattern

-- the octets of a code word; patterns are even
abbrev pub word_of : ℕ → ℕ
word_of pattern = pattern / 2 + 1

-- the weights in Part 4: without the flag the usual ones, whatever the fields are
abbrev pub custom_shifts : List ℕ → List ℕ
custom_shifts fourth = map (λ i. number_in fourth (33 + 2 * i) 2) (range_with_len 0 10)

abbrev pub weights_in : List ℕ → Weights
weights_in fourth = record { shifts = if is_set fourth 32 then custom_shifts fourth else usual_shifts }

-- where the segment stops, in Part 2: a stop at the DC numbers has plane 0 and stage 3, whatever the fields are
abbrev pub stop_in : List ℕ → Stop
stop_in second = record {
  dc = is_set second 27;
  plane = if is_set second 27 then 0 else number_in second 28 5;
  stage = if is_set second 27 then 3 else number_in second 33 2;
}

abbrev pub image_in : List ℕ → ImagePart
image_in fourth = record {
  signed = is_set fourth 3;
  depth = depth_of (number_in fourth 4 4);
  width = number_in fourth 8 20;
  word = word_of (number_in fourth 29 3);
  weights = weights_in fourth;
}

-- what the parts say; Part 1 is the first of these octets, and only Part 1B has pad rows
abbrev pub head_of : (first second third fourth : List ℕ) → SegmentHead
head_of first second third fourth = record {
  first = is_set first 0;
  last = is_set first 1;
  count = number_in first 2 8;
  depth_dc = number_in first 10 5;
  depth_ac = number_in first 15 5;
  pad_rows = if is_set first 1 then number_in first 24 3 else 0;
  limit = number_in second 0 27;
  stop = stop_in second;
  fill = is_set second 35;
  blocks = number_in third 0 20;
  best_dc = is_set third 20;
  best_ac = is_set third 21;
  image = image_in fourth;
}

abbrev pub head_in : List ℕ → SegmentHead
head_in octets = head_of octets (part_2 octets) (part_3 octets) (part_4 octets)

-- ---- the tests

-- a test that refuses by this name if it holds
abbrev pub refused_where : Bool → HeadFault → Option HeadFault
refused_where test fault = if test then Some fault else None

-- the first of these that refuses
abbrev pub first_refusal : List (Option HeadFault) → Option HeadFault
first_refusal [] = None
first_refusal (None ∷ tests) = first_refusal tests
first_refusal (Some fault ∷ tests) = Some fault

-- all parts are there, and are whole
unfoldable pub presence_tests : List ℕ → List (Option HeadFault)
presence_tests octets =
    refused_where (nat_lt (length octets) 3) (HeadShort (length octets))
    ∷ refused_where (not (is_set octets 21)) (MissingPart 2)
    ∷ refused_where (not (is_set octets 22)) (MissingPart 3)
    ∷ refused_where (not (is_set octets 23)) (MissingPart 4)
    ∷ refused_where (nat_lt (length octets) (part_1_length octets + 16)) (HeadShort (length octets))
    ∷ []

-- nothing is asked for that is not read here
unfoldable pub support_tests : (third fourth : List ℕ) → List (Option HeadFault)
support_tests third fourth =
    refused_where (not (is_set fourth 0)) (Unsupported odd.Float)
    ∷ refused_where (is_set fourth 2) (Unsupported odd.Extended)
    ∷ refused_where (is_set fourth 28) (Unsupported odd.Transpose)
    ∷ refused_where (number_in fourth 29 3 % 2 == 1) (Unsupported odd.WordLength)
    ∷ refused_where (number_in fourth 8 20 == 0) (Unsupported odd.Width)
    ∷ refused_where (number_in third 0 20 == 0) (Unsupported odd.Blocks)
    ∷ []

-- the depths are within their bounds
unfoldable pub depth_tests : (depth_dc depth_ac : ℕ) → List (Option HeadFault)
depth_tests depth_dc depth_ac =
    refused_where (nat_lt 28 depth_dc || nat_lt 27 depth_ac) (DepthTooLarge depth_dc depth_ac) ∷ []

-- a limit that is not valid
abbrev pub is_bad_limit : (limit word : ℕ) → Bool
is_bad_limit limit word = not (limit == 0) && (nat_lt limit 32 || not (limit % word == 0))

-- each value is one that a head can have
unfoldable pub value_tests : SegmentHead → List (Option HeadFault)
value_tests h =
    refused_where (h.depth_dc == 0) (BadValue bad.DepthDc)
    ∷ refused_where (nat_lt h.image.width 17) (BadValue bad.Width)
    ∷ refused_where (is_bad_limit h.limit h.image.word) (BadValue bad.Limit)
    ∷ refused_where (h.fill && (h.limit == 0)) (BadValue bad.Fill)
    ∷ []

-- all tests, in their order
abbrev pub head_tests : List ℕ → List (Option HeadFault)
head_tests octets =
    presence_tests octets
    ++ support_tests (part_3 octets) (part_4 octets)
    ++ depth_tests (head_in octets).depth_dc (head_in octets).depth_ac
    ++ value_tests (head_in octets)

abbrev pub answer : {X : Type 0} → Option HeadFault → X → Result X HeadFault
answer None x = Ok x
answer (Some fault) x = Err fault

-- the result of a reader: the head, or the first refusal
unfoldable pub head_read : List ℕ → Result SegmentHead HeadFault
head_read octets = answer (first_refusal (head_tests octets)) (head_in octets)
