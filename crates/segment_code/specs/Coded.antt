-- What is decoded of what was coded. (docs/formats.md, "Stops, cut and fill" and "Reading a segment"; this project's own.)
use Rattle.std.specs.Prelude.{◌≡◌, ◌≤◌, ◌⊎◌, ◌*◌, ℤ, true, false, List, length, drop, Ok}
use Rattle.base_122.specs.declared.book.Book.{Book}
use Rattle.plane_defs.specs.Codes.{is_book_sound}
use Rattle.segment_defs.specs.declared.head.SegmentHead.{SegmentHead}
use Rattle.segment_defs.specs.Depths.{block_depths, depth_ac_of}
use Rattle.segment_defs.specs.Head.{IsHead, head_length}
use Rattle.segment_defs.specs.Coded.{coded_bits, coded}
use Rattle.segment_defs.specs.Spellable.{IsSpellable}
use Rattle.segment_defs.specs.TextLaws.{HasAllPlanes}
use Rattle.segment_defs.specs.TextOutcome.{Answer}
use Rattle.segment_defs.specs.TextWish.{TextWish, text_read}
use Rattle.segment_defs.specs.Parts.{IsPart, stopped}

-- what the coded text of these blocks holds, after its head
abbrev pub coded_outcome : TextWish → SegmentHead → List (List ℤ) → Answer
coded_outcome wish head blocks = text_read wish head (drop (head_length head) (coded wish.book head blocks))

-- there is no limit, or head and items are within it
abbrev pub IsUncut : Book → SegmentHead → List (List ℤ) → Type 0
IsUncut book head blocks = (head.limit ≡ 0) ⊎ (length (coded_bits book head blocks) ≤ 8 * head.limit)

pub record CodedReads (wish : TextWish) (head : SegmentHead) (blocks : List (List ℤ)) : Type 0 where
  -- numbers are given, whatever stop and limit the head has
  pub given : (w : List (List ℤ)) × (coded_outcome wish head blocks ≡ Ok w)
  -- as they are, they are a part of the blocks
  pub part : wish.restore ≡ false → (w : List (List ℤ)) × (coded_outcome wish head blocks ≡ Ok w) × IsPart head blocks w
  -- and if no limit cuts the items, those up to the stop
  pub whole : wish.restore ≡ false → IsUncut wish.book head blocks → coded_outcome wish head blocks ≡ Ok (stopped head blocks)
  -- without a stop and a cut they are the blocks, restored or not
  pub exact : IsUncut wish.book head blocks → HasAllPlanes head → coded_outcome wish head blocks ≡ Ok blocks

-- of values that can be coded, with the depths that they have
abbrev pub CodedTextsAreRead : Type 0
CodedTextsAreRead = (wish : TextWish) → is_book_sound wish.book ≡ true → (head : SegmentHead) (blocks : List (List ℤ)) → IsHead head →
    length head.image.weights.shifts ≡ 10 → IsSpellable head blocks (block_depths blocks) → head.depth_ac ≡ depth_ac_of blocks →
    CodedReads wish head blocks
