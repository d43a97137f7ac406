-- A coded segment that is read up to its bit planes. (This project's own.)
use Rattle.std.specs.Prelude.{◌≡◌, ◌<◌, ◌≤◌, ℕ, ◌*◌, ◌^◌, min, max, Bool, ℤ, pos, unsigned_abs, List, length, slice_index, slice_index_or, Option, Some, None}
use Rattle.std.specs.Prelude.{Result, Ok, Err}
use Rattle.wave_defs.specs.Held.{block_at, blocks_in}
use Rattle.bit_pipe.specs.declared.fault.Part.{Part}
use Rattle.bit_pipe.specs.declared.fault.TextFault.{TextFault}
use Rattle.bit_pipe.specs.Sources.{SourceOf}
use Rattle.bit_pipe.specs.SourceState.{SourceState, IsIn}
use Rattle.plane_defs.specs.Marks.{depths_of}
use Rattle.segment_defs.specs.declared.head.SegmentHead.{SegmentHead}
use Rattle.segment_defs.specs.TextWish.{TextWish, segment_read}
use Rattle.segment_defs.specs.SegmentItems.{dc_shift, q_of}
use Rattle.segment_defs.specs.Given.{dc_blocks_given, planes_part_given}
use Rattle.bit_pipe.specs.ScriptSources.{Found, by_part, by_fault, ReadsAs}
use Rattle.item_defs.specs.Scripts.{around}
use Rattle.number_defs.specs.DcLows.{DcGiven}
use Rattle.plane_defs.specs.StepLaws.{IsAc}
use Rattle.plane_defs.specs.Lows.{Given}
use Rattle.plane_defs.specs.Restored.{numbers_for}
use Rattle.dc_depths.specs.declared.reach.DcReach.{DcReach}
use Rattle.dc_depths.specs.Dcs.{SetsDcs}
use Rattle.dc_depths.specs.Reach.{AreGivenTo}
use Rattle.plane_reader.specs.Restoring.{dc_low}

-- all numbers are 0
pub record AreClear (cells : List ℤ) : Type 0 where
  pub at : (i : ℕ) → slice_index_or cells i (pos 0) ≡ pos 0

-- the number of low bits of a DC that the DC part does not send
abbrev pub low_bits : SegmentHead → ℕ
low_bits head = min (q_of head) (max head.depth_ac (dc_shift head))

-- a block before the planes: its AC numbers are 0, and so are the low bits of its DC that the DC part does not send
pub record HasDc (head : SegmentHead) (block : List ℤ) : Type 0 where
  pub whole : length block ≡ 64
  pub acs : (p : ℕ) → 1 ≤ p → slice_index_or block p (pos 0) ≡ pos 0
  pub part : ℕ
  pub dc : unsigned_abs (slice_index_or block 0 (pos 0)) ≡ 2 ^ low_bits head * part

-- the blocks hold what was read of a segment; if it is refused or the input fails, they have no meaning
abbrev pub TakesText : {I : Type 0} → SourceOf I → TextWish → SegmentHead → Result Part TextFault → SourceState I → SourceState I → List ℤ → Type 0
TakesText k wish head (Ok part) old new blocks = ReadsAs k (segment_read wish head) (by_part (Ok part) (blocks_in blocks) (blocks_in blocks)) old new
TakesText k wish head (Err fault) old new blocks = (given : List (List ℤ)) × ReadsAs k (segment_read wish head) (by_fault fault given) old new

-- the numbers that a text gives, restored if that is wished
abbrev pub numbers_read : TextWish → SegmentHead → Given → List (List ℤ)
numbers_read wish head = numbers_for wish.restore head.image.weights.shifts

-- The DC part and the block depths were read, and what is left are the planes of these blocks and depths: however they end, so does
-- the segment. Of each DC the bits are given that the DC part has, and nothing is given of the AC numbers.
pub record AwaitsPlanes {I : Type 0} (k : SourceOf I) (wish : TextWish) (head : SegmentHead) (old new : SourceState I) (blocks marks : List ℤ) : Type 0 where
  pub given : Given
  pub numbers : given.numbers ≡ blocks_in blocks
  pub dc_lows : (r : ℕ) → r < head.blocks → given.lows r 0 ≡ Some (dc_low head.image.weights.shifts (q_of head) head.depth_ac)
  pub ac_lows : (r p : ℕ) → IsAc p → given.lows r p ≡ None
  pub left : (found : Found (List (List ℤ)) (List (List ℤ))) (last : SourceState I) →
      ReadsAs k (around (numbers_read wish head) (planes_part_given wish.book head given (depths_of marks))) found new last →
      ReadsAs k (segment_read wish head) found old last
  pub is_in : IsIn new
  pub dcs : (r : ℕ) → r < head.blocks → HasDc head (block_at blocks r)
  pub low : (r : ℕ) → slice_index (depths_of marks) r ≤ head.depth_ac

-- the text ends before its planes, or they follow
abbrev pub EndsStart : {I : Type 0} → SourceOf I → TextWish → SegmentHead → Result (Option Part) TextFault → SourceState I → SourceState I →
    (blocks marks : List ℤ) → Type 0
EndsStart k wish head (Ok (Some part)) old new blocks marks = TakesText k wish head (Ok part) old new blocks
EndsStart k wish head (Ok None) old new blocks marks = AwaitsPlanes k wish head old new blocks marks
EndsStart k wish head (Err fault) old new blocks marks = TakesText k wish head (Err fault) old new blocks

-- the result of a call that reads a segment up to its planes
pub record TakesStart {I : Type 0} (k : SourceOf I) (wish : TextWish) (head : SegmentHead) (result : Result (Option Part) TextFault)
    (old new : SourceState I) (blocks marks : List ℤ) : Type 0 where
  pub ends : EndsStart k wish head result old new blocks marks

-- the numbers of a text that ends before its planes, of which the DCs are given so far: restored if that is wished
pub record EndsAtDcs (restore : Bool) (head : SegmentHead) (reach : DcReach) (old new : List ℤ) : Type 0 where
  pub numbers : (given : DcGiven) (first : List ℤ) → length first ≡ 64 * head.blocks → AreClear first → SetsDcs given.dcs first old →
      AreGivenTo (q_of head) head.blocks reach given.lows →
      blocks_in new ≡ numbers_for restore head.image.weights.shifts (dc_blocks_given head.blocks given)
