-- The laws of a text that is read as it is wished.
use Rattle.std.specs.Prelude.{◌≡◌, ℕ, Bool, true, false, List, length, Option, None, Some, Ok, Err, ℤ}
use Rattle.item_defs.specs.Outcomes.{Outcome, whole, cut, refused}
use Rattle.item_defs.specs.Scripts.{run}
use Rattle.plane_defs.specs.Codes.{is_book_sound}
use Rattle.plane_defs.specs.Restored.{numbers_for}
use Rattle.segment_defs.specs.declared.head.SegmentHead.{SegmentHead}
use Rattle.segment_defs.specs.Head.{IsHead}
use Rattle.segment_defs.specs.SegmentItems.{segment_items}
use Rattle.segment_defs.specs.Outcomes.{SegmentRefusal, Holds}
use Rattle.segment_defs.specs.Parts.{AreWeighted}
use Rattle.segment_defs.specs.Segments.{segment_script}
use Rattle.segment_defs.specs.TextOutcome.{Answer, text_outcome}
use Rattle.segment_defs.specs.TextLaws.{HasAllPlanes}
use Rattle.segment_defs.specs.Given.{text_given}
use Rattle.segment_defs.specs.GivenLaws.{with_numbers}
use Rattle.segment_defs.specs.TextWish.{TextWish, segment_read, text_read}

-- how far bits were read, without the numbers
abbrev pub end_of : {G A : Type 0} → Outcome G A → Outcome (Unit {0}) (Unit {0})
end_of (whole a left) = whole tt left
end_of (cut g) = cut tt
end_of (refused g name left) = refused tt name left

-- the name by which a text is refused, if it is
abbrev pub refusal_in : Answer → Option SegmentRefusal
refusal_in (Ok w) = None
refusal_in (Err name) = Some name

pub record WishesAgree : Type 0 where
  -- the numbers are those that a text gives, restored if that is wished
  pub given : (wish : TextWish) (head : SegmentHead) (rest : List ℕ) →
      text_read wish head rest ≡ with_numbers (numbers_for wish.restore head.image.weights.shifts) (text_given wish.book head rest)
  -- if it isn't, they are those of the text
  pub script : (wish : TextWish) (head : SegmentHead) → wish.restore ≡ false → segment_read wish head ≡ segment_script wish.book head
  pub text : (wish : TextWish) (head : SegmentHead) (rest : List ℕ) → wish.restore ≡ false → text_read wish head rest ≡ text_outcome wish.book head rest
  -- how far bits are read, and whether and why a text is refused, does not depend on it
  pub ends : (wish : TextWish) (head : SegmentHead) (bits : List Bool) →
      end_of (run (segment_read wish head) bits) ≡ end_of (run (segment_script wish.book head) bits)
  pub refusals : (wish : TextWish) (head : SegmentHead) (rest : List ℕ) →
      refusal_in (text_read wish head rest) ≡ refusal_in (text_outcome wish.book head rest)

-- the numbers of a text, restored or as they are
pub record ReadsAsWished (wish : TextWish) (head : SegmentHead) (rest : List ℕ) : Type 0 where
  -- they are multiples of their weights
  pub numbers : (v : List (List ℤ)) → text_read wish head rest ≡ Ok v → AreWeighted head v
  -- values of which all items are given, without a stop, are read as they are
  pub exact : (h : Holds wish.book head rest) → HasAllPlanes head → h.count ≡ length (segment_items head h.blocks h.depths h.options) →
      text_read wish head rest ≡ Ok h.blocks

abbrev pub TextsReadAsWished : Type 0
TextsReadAsWished = (wish : TextWish) → is_book_sound wish.book ≡ true → (head : SegmentHead) (rest : List ℕ) → IsHead head → ReadsAsWished wish head rest
