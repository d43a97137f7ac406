-- The results of calls that read a segment's text to its end. (This project's own.)
use Rattle.std.specs.Prelude.{◌≡◌, ◌≢◌, ◌<◌, ◌≤◌, ◌⊎◌, ℕ, ◌+◌, ◌*◌, if◌then◌else◌, List, length, Result, Ok, Err}
use Rattle.std.specs.Int.{div_ceil}
use Rattle.item_defs.specs.Bits.{AreOctets}
use Rattle.item_defs.specs.Padding.{rounded}
use Rattle.bit_pipe.specs.Sinks.{Rose}
use Rattle.bit_pipe.specs.declared.fault.Part.{Part}
use Rattle.bit_pipe.specs.declared.fault.Part.TheVariants.{Whole, Ended}
use Rattle.bit_pipe.specs.Sources.{SourceOf, Arrives, IsOver, Plainly, TooLong, InPieces}
use Rattle.segment_defs.specs.declared.head.SegmentHead.{SegmentHead}
use Rattle.segment_code.specs.declared.fault.SegmentFault.{SegmentFault}
use Rattle.segment_code.specs.declared.fault.SegmentFault.TheVariants.{ShortSegment, BrokenSegment, ReadFault, LongInput}

-- the bits of a whole text in which this number of bits are head and items
abbrev pub wanted_bits : SegmentHead → ℕ → ℕ
wanted_bits head used = if head.fill then 8 * head.limit else rounded (8 * head.image.word) used

-- whether these octets are those that were asked for
abbrev pub EndsLength : {I : Type 0} → SourceOf I → ℕ → Part → Result Part SegmentFault → List ℕ → I → I → Type 0
EndsLength k count part (Ok answered) octets old new = (answered ≡ part) × (length octets ≡ count)
EndsLength k count part (Err ShortSegment) octets old new = (length octets < count) × IsOver (k.tail new) Plainly
EndsLength k count part (Err BrokenSegment) octets old new = (length octets < count) × IsOver (k.tail new) InPieces
EndsLength k count part (Err LongInput) octets old new = (length octets < count) × IsOver (k.tail new) TooLong
EndsLength k count part (Err ReadFault) octets old new = (length octets < count) × Rose (k.faults old) (k.faults new)
EndsLength k count part (Err other) octets old new = ⊥

-- a number of octets was asked for
pub record Passes {I : Type 0} (k : SourceOf I) (count : ℕ) (part : Part) (result : Result Part SegmentFault) (old new : I) : Type 0 where
  pub octets : List ℕ
  pub small : AreOctets octets
  pub came : Arrives (k.tail old) (k.tail new) octets
  pub faults : k.faults old ≤ k.faults new
  pub went : k.Went old new
  pub ends : EndsLength k count part result octets old new

-- the octets up to the expected length were asked for
pub record EndsWhole {I : Type 0} (k : SourceOf I) (head : SegmentHead) (used : ℕ) (result : Result Part SegmentFault) (old new : I) : Type 0 where
  pub count : ℕ
  pub wanted : 8 * (div_ceil used 8 + count) ≡ wanted_bits head used
  pub ends : Passes k count Whole result old new

-- below the limit, or without one, the text is short
pub record EndsCut (head : SegmentHead) (used : ℕ) (result : Result Part SegmentFault) : Type 0 where
  pub ends : (((head.limit ≡ 0) ⊎ (used < 8 * head.limit)) × (result ≡ Err ShortSegment))
      ⊎ ((head.limit ≢ 0) × (8 * head.limit ≤ used) × (result ≡ Ok Ended))
