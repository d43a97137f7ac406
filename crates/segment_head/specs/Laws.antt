-- The laws of heads.
use Rattle.std.specs.Prelude.{◌≡◌, ◌<◌, ℕ, List, ◌++◌, length, Bool, Ok}
use Rattle.item_defs.specs.Bits.{octets_of}
use Rattle.segment_defs.specs.declared.head.SegmentHead.{SegmentHead}
use Rattle.segment_defs.specs.Head.{IsHead, head_bits}
use Rattle.segment_defs.specs.Reading.{head_read}

-- a head is read as it was written, and one that was read can be written
pub record HeadsUndo : Type 0 where
  pub read : (h : SegmentHead) (more : List Bool) → IsHead h → h.count < 256 → length h.image.weights.shifts ≡ 10 →
      head_read (octets_of (head_bits h ++ more)) ≡ Ok h
  pub fits : (octets : List ℕ) (h : SegmentHead) → head_read octets ≡ Ok h → IsHead h
