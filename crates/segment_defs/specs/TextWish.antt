-- How a segment's text is read: with the codes of a book, and as numbers that are restored, or as they are. (docs/formats.md, "Reading a
-- segment" and "Restored numbers"; this project's own.)
use Rattle.std.specs.Prelude.{ℕ, ℤ, Bool, false, List}
use Rattle.base_122.specs.declared.book.Book.{Book}
use Rattle.base_122.specs.declared.wish.DecodeWish.{DecodeWish}
use Rattle.segment_defs.specs.declared.head.SegmentHead.{SegmentHead}
use Rattle.item_defs.specs.Scripts.{Script, around, run}
use Rattle.plane_defs.specs.Restored.{numbers_for}
use Rattle.segment_defs.specs.Outcomes.{bits_read}
use Rattle.segment_defs.specs.Given.{segment_given}
use Rattle.segment_defs.specs.TextOutcome.{Answer, verdict}

pub record TextWish : Type 0 where
  pub book : Book
  pub restore : Bool

-- the numbers as they are
abbrev pub unrestored : Book → TextWish
unrestored book = record { book = book; restore = false }

-- how a decoder of packets reads the text of each segment
abbrev pub text_wish : DecodeWish → TextWish
text_wish wish = record { book = wish.book; restore = wish.restore }

-- the text of a segment, as the numbers that are wished; as they are, it is `segment_script`
unfoldable pub segment_read : TextWish → SegmentHead → Script (List (List ℤ)) (List (List ℤ))
segment_read wish head = around (numbers_for wish.restore head.image.weights.shifts) (segment_given wish.book head)

-- what a text of this head holds, with these octets after the head; as they are, it is `text_outcome`
abbrev pub text_read : TextWish → SegmentHead → (rest : List ℕ) → Answer
text_read wish head rest = verdict head rest (run (segment_read wish head) (bits_read head rest))
