-- The laws of what a segment's text gives.
use Rattle.std.specs.Prelude.{◌≡◌, ℕ, true, List, length, Result, Ok, Err, ℤ}
use Rattle.base_122.specs.declared.book.Book.{Book}
use Rattle.segment_defs.specs.declared.head.SegmentHead.{SegmentHead}
use Rattle.item_defs.specs.Scripts.{around}
use Rattle.plane_defs.specs.Codes.{is_book_sound}
use Rattle.plane_defs.specs.Lows.{Given}
use Rattle.plane_defs.specs.Restored.{restored}
use Rattle.segment_defs.specs.Head.{IsHead}
use Rattle.segment_defs.specs.SegmentItems.{segment_items}
use Rattle.segment_defs.specs.Outcomes.{SegmentRefusal, Holds}
use Rattle.segment_defs.specs.Parts.{AreWeighted}
use Rattle.segment_defs.specs.Segments.{segment_script}
use Rattle.segment_defs.specs.TextOutcome.{Answer, text_outcome}
use Rattle.segment_defs.specs.TextLaws.{HasAllPlanes}
use Rattle.segment_defs.specs.Given.{segment_given, text_given}

-- these numbers of what is given, or the name of a refusal
abbrev pub with_numbers : (Given → List (List ℤ)) → Result Given SegmentRefusal → Answer
with_numbers numbers (Ok g) = Ok (numbers g)
with_numbers numbers (Err name) = Err name

-- the script, and the text, with what is given of each number give the numbers of those without
pub record TextsAreGiven : Type 0 where
  pub script : (book : Book) (head : SegmentHead) → around (λ g. g.numbers) (segment_given book head) ≡ segment_script book head
  pub text : (book : Book) (head : SegmentHead) (rest : List ℕ) → text_outcome book head rest ≡ with_numbers (λ g. g.numbers) (text_given book head rest)

pub record TextRestores (book : Book) (head : SegmentHead) (rest : List ℕ) : Type 0 where
  -- restored numbers are multiples of their weights, in the range of the numbers
  pub weighted : (g : Given) → text_given book head rest ≡ Ok g → AreWeighted head (restored head.image.weights.shifts g)
  -- values of which all items are given, without a stop, are restored as they are
  pub exact : (h : Holds book head rest) → HasAllPlanes head → h.count ≡ length (segment_items head h.blocks h.depths h.options) →
      (g : Given) × (text_given book head rest ≡ Ok g) × (restored head.image.weights.shifts g ≡ h.blocks)

abbrev pub TextsAreRestored : Type 0
TextsAreRestored = (book : Book) → is_book_sound book ≡ true → (head : SegmentHead) (rest : List ℕ) → IsHead head → TextRestores book head rest
