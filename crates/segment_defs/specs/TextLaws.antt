-- The laws of coded segments, as they are read.
use Rattle.std.specs.Prelude.{◌≡◌, ◌⊎◌, ◌<◌, ℕ, List, length, take, true, false, ℤ, Ok, Err}
use Rattle.item_defs.specs.Items.{Form, Item}
use Rattle.item_defs.specs.Readings.{AreItems}
use Rattle.base_122.specs.declared.book.Book.{Book}
use Rattle.plane_defs.specs.Codes.{is_book_sound}
use Rattle.segment_defs.specs.declared.head.SegmentHead.{SegmentHead}
use Rattle.item_defs.specs.Scripts.{Script}
use Rattle.item_defs.specs.Following.{SaysWhat, Asks}
use Rattle.item_defs.specs.Completing.{Goes, Completed}
use Rattle.segment_defs.specs.Head.{IsHead}
use Rattle.segment_defs.specs.SegmentItems.{segment_items}
use Rattle.segment_defs.specs.Outcomes.{SegmentRefusal, Holds, Refused}
use Rattle.segment_defs.specs.TextWish.{TextWish, segment_read}
use Rattle.segment_defs.specs.Parts.{HasDcs, HasPlanes, IsPart, stopped, AreWeighted}
use Rattle.segment_defs.specs.TextOutcome.{text_outcome}

-- there are as many blocks as the head has
abbrev pub HasBlocks : SegmentHead → List (List ℤ) → Type 0
HasBlocks head w = length w ≡ head.blocks

-- the laws of a script that reads the text of a segment
pub record SegmentLaws (script : Script (List (List ℤ)) (List (List ℤ))) (head : SegmentHead) : Type 0 where
  -- what bits are read as is what items say
  pub says : SaysWhat script
  -- each question is sound and has a possible answer
  pub goes : Goes script (HasBlocks head)
  -- so a reading that is cut can be completed
  pub completes : (items : List Item) (form : Form) → AreItems items → Asks script items form → Completed script (HasBlocks head) items

abbrev pub SegmentsAreRead : Type 0
SegmentsAreRead = (wish : TextWish) (head : SegmentHead) → is_book_sound wish.book ≡ true → SegmentLaws (segment_read wish head) head

-- the stop is after the last stage of the last bit plane
pub record HasAllPlanes (head : SegmentHead) : Type 0 where
  pub goes_on : head.stop.dc ≡ false
  pub plane : head.stop.plane ≡ 0
  pub stage : head.stop.stage ≡ 3

-- a text is read as values exactly if it holds some, and is refused by a name exactly if it has this name
pub record TextReads (book : Book) (head : SegmentHead) (rest : List ℕ) : Type 0 where
  -- whichever values are read in it, the same part of them is given
  pub holds : (h : Holds book head rest) → (v : List (List ℤ)) × (text_outcome book head rest ≡ Ok v) × IsPart head h.blocks v
  -- values of which all items are given are read as far as the stop
  pub whole : (h : Holds book head rest) → h.count ≡ length (segment_items head h.blocks h.depths h.options) →
      text_outcome book head rest ≡ Ok (stopped head h.blocks)
  -- and as they are, if there is none
  pub exact : (h : Holds book head rest) → HasAllPlanes head → h.count ≡ length (segment_items head h.blocks h.depths h.options) →
      text_outcome book head rest ≡ Ok h.blocks
  -- if an item is cut, the DC numbers of those before it are given, or the values up to its place
  pub there : (h : Holds book head rest) → h.count < length (segment_items head h.blocks h.depths h.options) →
      (v : List (List ℤ)) × (text_outcome book head rest ≡ Ok v) ×
      (HasDcs head h.blocks v ⊎ HasPlanes head h.blocks h.depths h.options (take h.count (segment_items head h.blocks h.depths h.options)) v)
  pub refuses : (name : SegmentRefusal) → Refused book head rest name → text_outcome book head rest ≡ Err name
  pub held : (v : List (List ℤ)) → text_outcome book head rest ≡ Ok v → Holds book head rest
  pub refused : (name : SegmentRefusal) → text_outcome book head rest ≡ Err name → Refused book head rest name
  -- the numbers that are given are multiples of their weights
  pub numbers : (v : List (List ℤ)) → text_outcome book head rest ≡ Ok v → AreWeighted head v

abbrev pub TextsAreRead : Type 0
TextsAreRead = (book : Book) → is_book_sound book ≡ true → (head : SegmentHead) (rest : List ℕ) → IsHead head → TextReads book head rest

-- so each text holds some values or is refused, by one name, and not both
pub record OutcomesExclude (book : Book) (head : SegmentHead) (rest : List ℕ) : Type 0 where
  pub some : Holds book head rest ⊎ ((name : SegmentRefusal) × Refused book head rest name)
  pub one_name : (a b : SegmentRefusal) → Refused book head rest a → Refused book head rest b → a ≡ b
  pub not_both : (name : SegmentRefusal) → Holds book head rest → Refused book head rest name → ⊥

abbrev pub TextsHaveOutcomes : Type 0
TextsHaveOutcomes = (book : Book) → is_book_sound book ≡ true → (head : SegmentHead) (rest : List ℕ) → IsHead head → OutcomesExclude book head rest
