-- The effect of the steps of a decoder that read a head or a text. (This project's own.)
use Rattle.std.specs.Prelude.{◌≡◌, ◌⊎◌, ◌≤◌, ◌<◌, ◌*◌, ℕ, None, Some, Result, Ok, Err}
use Rattle.bit_pipe.specs.declared.fault.InFault.TheVariants as in_faults
use Rattle.bit_pipe.specs.Sources.{SourceOf, GivesOctet}
use Rattle.segment_defs.specs.declared.head.SegmentHead.{SegmentHead}
use Rattle.segment_defs.specs.Reading.{first_refusal}
use Rattle.segment_code.specs.declared.fault.SegmentFault.{SegmentFault}
use Rattle.segment_code.specs.declared.fault.SegmentFault.TheVariants as faults
use Rattle.bare_text.specs.declared.parts.PartsInForce.{PartsInForce}
use Rattle.bare_text.specs.declared.read.BareHead.{BareHead}
use Rattle.bare_text.specs.declared.read.BareHeadFault.TheVariants as head_faults
use Rattle.bare_text.specs.Agreement.{agreement_tests}
use Rattle.bare_text.specs.Taken.{ReadsHead}
use Rattle.bare_stream.specs.declared.fault.BareCause.TheVariants as causes
use Rattle.bare_stream.specs.declared.fault.BareFault.{BareFault}
use Rattle.bare_stream.specs.declared.fault.BareFault.TheVariants.{ReadFault, LongInput, TooManyPixels, Refused}
use Rattle.bare_stream.specs.Pictures.{pixels_at}

-- the head of the segment of this index was read, or is refused by itself, or the input failed
abbrev pub TakesHead : {I : Type 0} → SourceOf I → PartsInForce → (index : ℕ) → Result BareHead BareFault → (old new : I) → PartsInForce → Type 0
TakesHead k before index (Ok read) old new after = ReadsHead k before (Ok read) old new after
TakesHead k before index (Err (Refused at (causes.Head fault))) old new after =
    (at ≡ index) × ReadsHead k before (Err (head_faults.Refused fault)) old new after
TakesHead k before index (Err ReadFault) old new after = ReadsHead k before (Err (head_faults.Input in_faults.ReadFault)) old new after
TakesHead k before index (Err LongInput) old new after =
    ReadsHead k before (Err (head_faults.Input in_faults.LongInput)) old new after ⊎ ReadsHead k before (Err (head_faults.Input in_faults.Broken)) old new after
TakesHead k before index (Err other) old new after = ⊥

-- the head of the segment of this index agrees with the first head
abbrev pub AgreesWith : (first : SegmentHead) → (index : ℕ) → SegmentHead → Type 0
AgreesWith first index head = first_refusal (agreement_tests first index head) ≡ None

-- a head agrees with the first one, and reports at most the pixels of the wish
abbrev pub ChecksHead : (pixels : ℕ) → (first : SegmentHead) → (index : ℕ) → SegmentHead → Result (Unit {0}) BareFault → Type 0
ChecksHead pixels first index head (Ok done) = AgreesWith first index head × (pixels_at first index head ≤ pixels)
ChecksHead pixels first index head (Err (Refused at (causes.Head fault))) = (at ≡ index) × (first_refusal (agreement_tests first index head) ≡ Some fault)
ChecksHead pixels first index head (Err (TooManyPixels found)) = AgreesWith first index head × (found ≡ pixels_at first index head) × (pixels < found)
ChecksHead pixels first index head (Err other) = ⊥

-- the fault of a decoder for this fault of a text
abbrev pub FaultOf : (index : ℕ) → SegmentFault → BareFault → Type 0
FaultOf index faults.BadOption fault = fault ≡ Refused index causes.BadOption
FaultOf index faults.BadDelta fault = fault ≡ Refused index causes.BadDelta
FaultOf index faults.BadDepth fault = fault ≡ Refused index causes.BadDepth
FaultOf index faults.FalseFlag fault = fault ≡ Refused index causes.FalseFlag
FaultOf index faults.ShortSegment fault = fault ≡ Refused index causes.Short
FaultOf index faults.ReadFault fault = fault ≡ ReadFault
FaultOf index other fault = fault ≡ LongInput

-- there is room for the coefficients and the state of this number of blocks, and for no more
pub record IsRoom (count cells states : ℕ) : Type 0 where
  pub blocks : cells ≡ 64 * count
  pub marks : states ≡ count

-- after all segments the input ended, or has an octet more, or failed
abbrev pub ExpectsEnd : {I : Type 0} → SourceOf I → (index : ℕ) → Result (Unit {0}) BareFault → (old new : I) → Type 0
ExpectsEnd k index (Ok done) old new = GivesOctet k (Ok None) old new
ExpectsEnd k index (Err (Refused at causes.Trailing)) old new = (at ≡ index) × ((octet : ℕ) × GivesOctet k (Ok (Some octet)) old new)
ExpectsEnd k index (Err ReadFault) old new = GivesOctet k (Err in_faults.ReadFault) old new
ExpectsEnd k index (Err LongInput) old new = GivesOctet k (Err in_faults.LongInput) old new ⊎ GivesOctet k (Err in_faults.Broken) old new
ExpectsEnd k index (Err other) old new = ⊥
