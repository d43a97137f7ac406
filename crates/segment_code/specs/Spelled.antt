-- What the items of some values decide, in the octets after a head of any size.
use Rattle.std.specs.Prelude.{◌≡◌, ℕ, ◌+◌, ◌-◌, ◌*◌, ◌==◌, if◌then◌else◌, ℤ, Bool, List, ◌++◌, length, Option, None}
use Rattle.item_defs.specs.Items.{text}
use Rattle.item_defs.specs.Readings.{AreItems}
use Rattle.bit_pipe.specs.declared.fault.Part.TheVariants.{Whole, Ended}
use Rattle.segment_defs.specs.declared.head.SegmentHead.{SegmentHead}
use Rattle.segment_defs.specs.TextWish.{TextWish}
use Rattle.segment_defs.specs.Head.{IsHead}
use Rattle.segment_defs.specs.SegmentItems.{Options, segment_items}
use Rattle.segment_defs.specs.Prefixes.{Prefix, NothingFollows}
use Rattle.segment_defs.specs.Spellable.{IsSpellable, AreWordOptions}
use Rattle.segment_defs.specs.TextLaws.{HasAllPlanes}
use Rattle.segment_code.specs.TextAnswers.{gives, Decided, if_enough, bits_within, whole_octets, answer_in}

-- the answer of a text whose items, of this number of bits, are all given, and of one that is cut within an item
abbrev pub if_whole : SegmentHead → (size there bits : ℕ) → List (List ℤ) → Option Decided
if_whole head size there bits w = if_enough there (whole_octets head (8 * size + bits) - size) (gives Whole w)

abbrev pub if_cut : SegmentHead → (size there : ℕ) → List (List ℤ) → Option Decided
if_cut head size there w = if head.limit == 0 then None else if_enough there (head.limit - size) (gives Ended w)

-- a text with these options, as its numbers are, or restored
abbrev pub wish_for : Options → (restore : Bool) → TextWish
wish_for options restore = record { book = options.book; restore = restore }

-- the octets begin with all items of these values, or with some of them before the place where they are cut
pub record SpelledDecide (restore : Bool) (head : SegmentHead) (size : ℕ) (blocks : List (List ℤ)) (depths : List ℕ) (options : Options)
    (octets : List ℕ) : Type 0 where
  pub whole : AreItems (segment_items head blocks depths options) → (more : List Bool) →
      bits_within head size octets ≡ text (segment_items head blocks depths options) ++ more →
      (w : List (List ℤ)) × (answer_in (wish_for options restore) head size octets ≡
      if_whole head size (length octets) (length (text (segment_items head blocks depths options))) w)
  -- if there is no stop, these are the values
  pub exact : AreItems (segment_items head blocks depths options) → HasAllPlanes head → (more : List Bool) →
      bits_within head size octets ≡ text (segment_items head blocks depths options) ++ more →
      answer_in (wish_for options restore) head size octets ≡
      if_whole head size (length octets) (length (text (segment_items head blocks depths options))) blocks
  pub cut : (m : ℕ) (more : List Bool) → Prefix (segment_items head blocks depths options) m (bits_within head size octets) more →
      NothingFollows (segment_items head blocks depths options) m more →
      (w : List (List ℤ)) × (answer_in (wish_for options restore) head size octets ≡ if_cut head size (length octets) w)

abbrev pub SpelledTextsDecide : Type 0
SpelledTextsDecide = (restore : Bool) (head : SegmentHead) (size : ℕ) (blocks : List (List ℤ)) (depths : List ℕ) (options : Options)
    (octets : List ℕ) → IsHead head → IsSpellable head blocks depths → AreWordOptions options → SpelledDecide restore head size blocks depths options octets
