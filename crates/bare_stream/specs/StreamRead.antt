-- How octets are read as a bare stream, as far as they go: segment by segment, up to the octets that decide the answer. (docs/formats.md,
-- "Bare texts"; this project's own.)
use Rattle.std.specs.Prelude.{ℕ, zero, suc, ◌+◌, nat_lt, if◌then◌else◌, ℤ, List, [], ◌∷◌, ◌++◌, length, take, drop, unwrap_or, Option, None, Some, Result}
use Rattle.std.specs.Prelude.{Ok, Err}
use Rattle.item_defs.specs.Items.{Refusal, bad_option, bad_delta, bad_depth, false_flag}
use Rattle.segment_defs.specs.TextWish.{TextWish, text_wish}
use Rattle.base_122.specs.declared.geometry.Geometry.{Geometry}
use Rattle.base_122.specs.declared.wish.DecodeWish.{DecodeWish}
use Rattle.segment_defs.specs.declared.head.SegmentHead.{SegmentHead}
use Rattle.segment_defs.specs.declared.fault.HeadFault.{HeadFault}
use Rattle.segment_defs.specs.declared.fault.HeadFault.TheVariants.{HeadShort}
use Rattle.segment_defs.specs.Reading.{first_refusal}
use Rattle.segment_code.specs.TextAnswers.{TextAnswer, gives, refuses, Decided, answer_in}
use Rattle.bare_text.specs.declared.parts.PartsInForce.{PartsInForce}
use Rattle.bare_text.specs.InForce.{none_in_force, parts_after}
use Rattle.bare_text.specs.Reading.{HeadDecided, bare_head_in}
use Rattle.bare_text.specs.Agreement.{agreement_tests}
use Rattle.bare_stream.specs.declared.fault.BareCause.{BareCause}
use Rattle.bare_stream.specs.declared.fault.BareCause.TheVariants.{Head, BadOption, BadDelta, BadDepth, FalseFlag, Short, Trailing}
use Rattle.bare_stream.specs.declared.fault.BareFault.{BareFault}
use Rattle.bare_stream.specs.declared.fault.BareFault.TheVariants.{LongInput, TooManyPixels, Refused}
use Rattle.bare_stream.specs.Pictures.{geometry_at, pixels_at}

-- ---- the next segment

-- How the reading ends: more octets are needed, and this is the answer if there are none; or this fault is the answer, which the first
-- octets of the stream decide, of this number.
pub data Ending : Type 0 where
  needs_more : (at_end : Result Geometry BareFault) → Ending
  stops : BareFault → (octets : ℕ) → Ending

-- the segments that were read: the head of the first, the parts in force after them, the blocks of each, the geometry if the last segment is
-- among them, and the number of their octets
pub record Segments : Type 0 where
  pub first : Option SegmentHead
  pub before : PartsInForce
  pub blocks : List (List (List ℤ))
  pub ended : Option Geometry
  pub octets : ℕ

-- what is next: a text with its head, the number of its octets and its blocks; or the reading ends
pub data Next : Type 0 where
  text : SegmentHead → (octets : ℕ) → List (List ℤ) → Next
  ends : Ending → Next

-- the next segment is refused: its first n octets decide it, or the end
abbrev pub refused : Segments → (n : ℕ) → BareCause → Next
refused s n cause = ends (stops (Refused (length s.blocks) cause) (s.octets + n))

abbrev pub refused_at_end : Segments → BareCause → Next
refused_at_end s cause = ends (needs_more (Err (Refused (length s.blocks) cause)))

-- the head reports this number of pixels, more than are allowed
abbrev pub too_many : Segments → (n found : ℕ) → Next
too_many s n found = ends (stops (TooManyPixels found) (s.octets + n))

abbrev pub cause_of : Refusal → BareCause
cause_of bad_option = BadOption
cause_of bad_delta = BadDelta
cause_of bad_depth = BadDepth
cause_of false_flag = FalseFlag

-- after a head of `size` octets that may be there
abbrev pub by_answer : Segments → SegmentHead → (n : ℕ) → TextAnswer → Next
by_answer s head n (gives part w) = text head n w
by_answer s head n (refuses name) = refused s n (cause_of name)

abbrev pub items_next : Segments → SegmentHead → (size : ℕ) → Option Decided → Next
items_next s head size None = refused_at_end s Short
items_next s head size (Some d) = by_answer s head (size + d.octets) d.answer

-- the head agrees with the first one, which it may be itself, and reports at most the pixels that are allowed; otherwise it decides the answer
abbrev pub by_pixels : (pixels found : ℕ) → Segments → (size : ℕ) → (later : Next) → Next
by_pixels pixels found s size later = if nat_lt pixels found then too_many s size found else later

abbrev pub by_agreement : Segments → (size : ℕ) → Option HeadFault → (later : Next) → Next
by_agreement s size None later = later
by_agreement s size (Some fault) later = refused s size (Head fault)

abbrev pub checked : (pixels : ℕ) → Segments → SegmentHead → (size : ℕ) → (later : Next) → Next
checked pixels s head size later =
    let first = unwrap_or s.first head in
    by_agreement s size (first_refusal (agreement_tests first (length s.blocks) head)) (by_pixels pixels (pixels_at first (length s.blocks) head) s size later)

abbrev pub by_head : TextWish → (pixels : ℕ) → Segments → List ℕ → (size : ℕ) → Result SegmentHead HeadFault → Next
by_head wish pixels s octets size (Ok head) = checked pixels s head size (items_next s head size (answer_in wish head size (drop size octets)))
by_head wish pixels s octets size (Err fault) = refused s size (Head fault)

abbrev pub head_next : TextWish → (pixels : ℕ) → Segments → List ℕ → Option HeadDecided → Next
head_next wish pixels s octets None = refused_at_end s (Head (HeadShort (length octets)))
head_next wish pixels s octets (Some d) = by_head wish pixels s octets d.octets d.result

-- after the last segment only the end may follow
abbrev pub end_next : Segments → Geometry → List ℕ → Next
end_next s g [] = ends (needs_more (Ok g))
end_next s g (octet ∷ more) = refused s 1 Trailing

-- what these octets after the segments begin with: the tests in their order
abbrev pub next_by : TextWish → (pixels : ℕ) → Segments → List ℕ → (ended : Option Geometry) → Next
next_by wish pixels s octets None = head_next wish pixels s octets (bare_head_in s.before octets)
next_by wish pixels s octets (Some g) = end_next s g octets

abbrev pub next_in : TextWish → (pixels : ℕ) → Segments → List ℕ → Next
next_in wish pixels s octets = next_by wish pixels s octets s.ended

-- ---- all segments

-- the segments with the one of this text, whose octets are the first n of these
abbrev pub with_text : Segments → SegmentHead → (n : ℕ) → List (List ℤ) → List ℕ → Segments
with_text s head n w octets =
    let first = unwrap_or s.first head in
    record {
      first = Some first;
      before = parts_after s.before octets;
      blocks = s.blocks ++ w ∷ [];
      ended = if head.last then Some (geometry_at first (length s.blocks) head) else None;
      octets = s.octets + n;
    }

-- the segments that octets have, and how their reading ends
pub record Read : Type 0 where
  pub segments : Segments
  pub ending : Ending

abbrev pub continued : (Segments → List ℕ → Read) → Segments → List ℕ → Next → Read
continued read s octets (text head n w) = read (with_text s head n w octets) (drop n octets)
continued read s octets (ends ending) = record { segments = s; ending = ending }

-- the reading after some segments, if there are at most `most` texts
unfoldable pub read_after : (most : ℕ) → TextWish → (pixels : ℕ) → Segments → List ℕ → Read
read_after zero wish pixels s octets = record { segments = s; ending = needs_more (Err (Refused (length s.blocks) Short)) }
read_after (suc most) wish pixels s octets = continued (read_after most wish pixels) s octets (next_in wish pixels s octets)

-- each text has octets, so there are no more texts than octets
abbrev pub read_on : TextWish → (pixels : ℕ) → Segments → List ℕ → Read
read_on wish pixels s octets = read_after (suc (length octets)) wish pixels s octets

abbrev pub none_read : Segments
none_read = record { first = None; before = none_in_force; blocks = []; ended = None; octets = 0 }

-- the reading of octets as it is wished, of an image of at most this number of pixels
abbrev pub stream_in : TextWish → (pixels : ℕ) → List ℕ → Read
stream_in wish pixels octets = read_on wish pixels none_read octets

-- ---- the answer

-- the reading of the octets of an input that may be taken
abbrev pub reading : DecodeWish → (input : List ℕ) → Read
reading wish input = stream_in (text_wish wish) wish.pixels (take wish.octets input)

-- if more octets are needed, the input ends, or is longer than is allowed
abbrev pub answer_by : DecodeWish → (input : List ℕ) → Ending → Result Geometry BareFault
answer_by wish input (needs_more at_end) = if nat_lt (length input) wish.octets then at_end else Err LongInput
answer_by wish input (stops fault octets) = Err fault

abbrev pub answer_for : DecodeWish → (input : List ℕ) → Result Geometry BareFault
answer_for wish input = answer_by wish input (reading wish input).ending

-- the number of octets that decide it
abbrev pub octets_by : DecodeWish → (input : List ℕ) → Ending → ℕ
octets_by wish input (needs_more at_end) = length (take wish.octets input)
octets_by wish input (stops fault octets) = octets

abbrev pub octets_for : DecodeWish → (input : List ℕ) → ℕ
octets_for wish input = octets_by wish input (reading wish input).ending
