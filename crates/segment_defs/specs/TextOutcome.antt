-- What a segment's text holds, or by which name it is refused. (docs/formats.md, "Reading a segment"; this project's own.)
use Rattle.std.specs.Prelude.{ℕ, ◌+◌, ◌-◌, ◌*◌, ◌/◌, ◌==◌, if◌then◌else◌, nat_lt, ℤ, List, length, Result, Ok, Err}
use Rattle.item_defs.specs.Padding.{rounded}
use Rattle.base_122.specs.declared.book.Book.{Book}
use Rattle.segment_defs.specs.declared.head.SegmentHead.{SegmentHead}
use Rattle.segment_defs.specs.Head.{head_length}
use Rattle.segment_defs.specs.Outcomes.{SegmentRefusal, at_item, short_segment, overlong, length_of, bits_read}
use Rattle.item_defs.specs.Outcomes.{Outcome, whole, cut, refused}
use Rattle.item_defs.specs.Scripts.{run}
use Rattle.segment_defs.specs.Segments.{segment_script}

-- the numbers of blocks, or the name of a refusal
abbrev pub Answer : Type 0
Answer = Result (List (List ℤ)) SegmentRefusal

-- a text of this number of octets is refused if it is shorter than wanted, or longer
abbrev pub by_length : {X : Type 0} → (octets wanted : ℕ) → X → Result X SegmentRefusal
by_length octets wanted w = if nat_lt octets wanted then Err short_segment else if nat_lt wanted octets then Err overlong else Ok w

-- the expected length, if all items are given in this number of bits: the limit with fill, otherwise the octets up to the last item,
-- rounded up to the code word
abbrev pub expected : SegmentHead → (used : ℕ) → ℕ
expected head used = if head.fill then head.limit else rounded (8 * head.image.word) (8 * head_length head + used) / 8

-- if an item is not given, the text has to end at the limit
abbrev pub verdict : {X : Type 0} → SegmentHead → (rest : List ℕ) → Outcome X X → Result X SegmentRefusal
verdict head rest (refused w name left) = Err (at_item name)
verdict head rest (whole w left) = by_length (length_of head rest) (expected head (length (bits_read head rest) - length left)) w
verdict head rest (cut w) = if head.limit == 0 then Err short_segment else by_length (length_of head rest) head.limit w

-- what a text of this head holds, with these octets after the head
abbrev pub text_outcome : Book → SegmentHead → (rest : List ℕ) → Answer
text_outcome book head rest = verdict head rest (run (segment_script book head) (bits_read head rest))
