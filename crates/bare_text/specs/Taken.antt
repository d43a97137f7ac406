-- The effect of a call that reads a head with absent parts from an input. (This project's own.)
use Rattle.std.specs.Prelude.{◌≡◌, ◌≤◌, ℕ, List, length, Some, None, Result, Ok, Err}
use Rattle.item_defs.specs.Bits.{AreOctets}
use Rattle.bit_pipe.specs.Sources.{SourceOf, Arrives, IsOver, Plainly, Fails}
use Rattle.segment_defs.specs.declared.head.SegmentHead.{SegmentHead}
use Rattle.segment_defs.specs.declared.fault.HeadFault.{HeadFault}
use Rattle.segment_defs.specs.declared.fault.HeadFault.TheVariants.{HeadShort}
use Rattle.bare_text.specs.declared.parts.PartsInForce.{PartsInForce}
use Rattle.bare_text.specs.declared.read.BareHead.{BareHead}
use Rattle.bare_text.specs.declared.read.BareHeadFault.{BareHeadFault}
use Rattle.bare_text.specs.declared.read.BareHeadFault.TheVariants.{Input, Refused}
use Rattle.bare_text.specs.InForce.{parts_after}
use Rattle.bare_text.specs.Reading.{bare_head_in}

-- the octets are all that decide this, and no more
abbrev pub DecidesHead : PartsInForce → Result SegmentHead HeadFault → List ℕ → Type 0
DecidesHead before result octets = bare_head_in before octets ≡ Some (record { result = result; octets = length octets })

-- more octets are needed
abbrev pub NeedsHead : PartsInForce → List ℕ → Type 0
NeedsHead before octets = bare_head_in before octets ≡ None

-- a head that is short is refused at the input's end
abbrev pub EndsHead : {I : Type 0} → SourceOf I → PartsInForce → Result BareHead BareHeadFault → List ℕ → I → I → PartsInForce → Type 0
EndsHead k before (Ok read) octets old new after =
    DecidesHead before (Ok read.head) octets × (read.size ≡ length octets) × (after ≡ parts_after before octets)
EndsHead k before (Err (Refused (HeadShort count))) octets old new after = NeedsHead before octets × (count ≡ length octets) × IsOver (k.tail new) Plainly
EndsHead k before (Err (Refused fault)) octets old new after = DecidesHead before (Err fault) octets
EndsHead k before (Err (Input fault)) octets old new after = NeedsHead before octets × Fails k fault old new

-- the octets of a head were read, and no more
pub record ReadsHead {I : Type 0} (k : SourceOf I) (before : PartsInForce) (result : Result BareHead BareHeadFault) (old new : I)
    (after : PartsInForce) : Type 0 where
  pub octets : List ℕ
  pub small : AreOctets octets
  pub came : Arrives (k.tail old) (k.tail new) octets
  pub faults : k.faults old ≤ k.faults new
  pub went : k.Went old new
  pub ends : EndsHead k before result octets old new after
