-- The laws of heads with absent parts.
use Rattle.std.specs.Prelude.{◌≡◌, ◌<◌, ◌≤◌, ℕ, ℤ, List, ◌++◌, length, IsTrue, Option, None, Some, Ok}
use Rattle.item_defs.specs.Bits.{octets_of}
use Rattle.plane_defs.specs.Codes.{is_book_sound}
use Rattle.segment_defs.specs.declared.head.SegmentHead.{SegmentHead}
use Rattle.segment_defs.specs.Depths.{block_depths, depth_ac_of}
use Rattle.segment_defs.specs.Head.{IsHead, part_2, part_3, part_4}
use Rattle.bit_pipe.specs.declared.fault.Part.{Part}
use Rattle.segment_defs.specs.Spellable.{IsSpellable}
use Rattle.segment_defs.specs.TextLaws.{HasAllPlanes}
use Rattle.segment_defs.specs.TextWish.{TextWish}
use Rattle.segment_code.specs.TextAnswers.{gives, Decides}
use Rattle.segment_head.specs.Parts.{all_carried}
use Rattle.bare_text.specs.declared.parts.PartsInForce.{PartsInForce}
use Rattle.bare_text.specs.InForce.{none_in_force, parts_after}
use Rattle.bare_text.specs.Reading.{HeadDecided, bare_head_in}
use Rattle.bare_text.specs.Taken.{DecidesHead}
use Rattle.bare_text.specs.Writing.{part_octets, carried_after, bare_head_bits, bare_text}

-- the parts in force after a head that was written: none before the first, and otherwise its own
abbrev pub in_force : Option SegmentHead → PartsInForce
in_force None = none_in_force
in_force (Some h) = record { carried = all_carried; octets = part_octets (part_2 h) ++ (part_octets (part_3 h) ++ part_octets (part_4 h.image)) }

-- the octets of a head after this one
abbrev pub bare_head : Option SegmentHead → SegmentHead → List ℕ
bare_head before h = octets_of (bare_head_bits (carried_after before h) h)

-- A head is read as it was written after the head before, by exactly its octets, and its parts are in force then.
pub record BareHeadsUndo : Type 0 where
  pub read : (before : Option SegmentHead) (h : SegmentHead) → IsHead h → h.count < 256 → length h.image.weights.shifts ≡ 10 →
      DecidesHead (in_force before) (Ok h) (bare_head before h)
  pub force : (before : Option SegmentHead) (h : SegmentHead) → IsHead h → h.count < 256 → length h.image.weights.shifts ≡ 10 →
      parts_after (in_force before) (bare_head before h) ≡ in_force (Some h)

-- octets that decide a head, or its refusal, are there, and more octets do not change it
pub record HeadEndsThere (before : PartsInForce) (octets : List ℕ) (d : HeadDecided) : Type 0 where
  pub least : 3 ≤ d.octets
  pub most : d.octets ≤ 20
  pub enough : d.octets ≤ length octets
  pub stays : (more : List ℕ) → bare_head_in before (octets ++ more) ≡ Some d
  pub force : (head : SegmentHead) → d.result ≡ Ok head → (more : List ℕ) → parts_after before (octets ++ more) ≡ parts_after before octets
  -- a head that is read is one that can be written
  pub fits : (head : SegmentHead) → d.result ≡ Ok head → IsHead head

abbrev pub BareHeadsEndThere : Type 0
BareHeadsEndThere = (before : PartsInForce) (octets : List ℕ) (d : HeadDecided) → bare_head_in before octets ≡ Some d → HeadEndsThere before octets d

-- The text after the head before is its head and exactly the octets that decide its blocks, read with the codes of this book, restored or
-- as they are; with neither a stop nor a limit these are the blocks that were coded.
pub record HoldsText (wish : TextWish) (before : Option SegmentHead) (h : SegmentHead) (blocks : List (List ℤ)) : Type 0 where
  pub rest : List ℕ
  pub w : List (List ℤ)
  pub part : Part
  pub octets : bare_text wish.book before h blocks ≡ bare_head before h ++ rest
  pub decides : Decides wish h (length (bare_head before h)) rest (gives part w)
  pub exact : h.limit ≡ 0 → HasAllPlanes h → w ≡ blocks

abbrev pub BareTextsHold : Type 0
BareTextsHold = (wish : TextWish) → IsTrue (is_book_sound wish.book) → (before : Option SegmentHead) (h : SegmentHead) (blocks : List (List ℤ)) → IsHead h →
    length h.image.weights.shifts ≡ 10 →
    IsSpellable h blocks (block_depths blocks) → h.depth_ac ≡ depth_ac_of blocks → HoldsText wish before h blocks
