-- The effect of the calls that go through segments and their texts. This project's own.
use Rattle.std.specs.Prelude.{◌≡◌, ◌⊎◌, ℕ, List, [], ◌∷◌, ◌++◌, Option, None, Some, Result, Ok, Err}
use Rattle.bit_pipe.specs.declared.fault.InFault.{InFault}
use Rattle.bit_pipe.specs.declared.fault.InFault.TheVariants.{ReadFault, LongInput, Broken}
use Rattle.port_122.specs.Outside.{Outside, Rose}
use Rattle.stream_defs.specs.Fates.{after_all}
use Rattle.space_packets.specs.Intake.{verdict, end_read}
use Rattle.packet_assembly.specs.declared.note.SegmentStart.{SegmentStart}
use Rattle.packet_assembly.specs.Assembling.{Assembling, Starts, BeginsNone, Passes, StaysAt, StaysOpen, text_after}

-- ---- the next segment

-- it was held: its first packet had ended the text before
pub record WasHeld (old new : Outside) (a b : Assembling) (start : SegmentStart) : Type 0 where
  pub held : a.held ≡ Some start
  pub valid : b ≡ record a { held = None }
  pub same : old ≡ new

-- it was found: its first packet is the first of those that were passed which begins a segment
pub record WasFound (old new : Outside) (a b : Assembling) (start : SegmentStart) : Type 0 where
  pub none_held : a.held ≡ None
  pub prefix : List (List ℕ)
  pub packet : List ℕ
  pub passed : Passes (StaysAt a) old new a b (prefix ++ packet ∷ [])
  pub none_before : BeginsNone a.apid a.state prefix
  pub starts : Starts a.apid (after_all a.apid a.state prefix) packet start
  pub text : b.text ≡ text_after packet start.head
  pub none_after : b.held ≡ None

-- there is none among the packets that were passed
pub record FoundNone (old new : Outside) (a b : Assembling) : Type 0 where
  pub none_held : a.held ≡ None
  pub passed : List (List ℕ)
  pub passes : Passes (StaysAt a) old new a b passed
  pub none_begins : BeginsNone a.apid a.state passed
  pub stays : StaysAt a b.state
  pub none_after : b.held ≡ None

-- the reader is at the octet at which it returns the end, or why there is none
abbrev pub IsValidEnded : Assembling → Type 0
IsValidEnded b = verdict b.apid b.intake ≡ Some (Ok (end_read b.framing))

-- the reader is at the octet at which it returns that the input is too long
abbrev pub IsValidLong : Assembling → Type 0
IsValidLong b = verdict b.apid b.intake ≡ Some (Err LongInput)

abbrev pub EndsSegment : (old new : Outside) (a b : Assembling) → Result (Option SegmentStart) InFault → Type 0
EndsSegment old new a b (Ok (Some start)) = WasHeld old new a b start ⊎ WasFound old new a b start
EndsSegment old new a b (Ok None) = FoundNone old new a b × IsValidEnded b
EndsSegment old new a b (Err ReadFault) = FoundNone old new a b × Rose old.read_faults new.read_faults
EndsSegment old new a b (Err LongInput) = FoundNone old new a b × IsValidLong b
EndsSegment old new a b (Err Broken) = ⊥

-- The effect of a call that advances to the next segment. If none is held, and the end, what can't be read on or an input that is too long
-- was returned before, it is returned again.
pub record FindsSegment (old new : Outside) (a b : Assembling) (result : Result (Option SegmentStart) InFault) : Type 0 where
  pub ends : EndsSegment old new a b result
  pub ended : a.held ≡ None → IsValidEnded a → result ≡ Ok None
  pub long : a.held ≡ None → IsValidLong a → result ≡ Err LongInput

-- ---- a segment's text

-- the last of the packets that were passed begins a segment, and no other does; the octets that wait are of its text
pub record BeganAt (a : Assembling) (passed : List (List ℕ)) (start : SegmentStart) (text : List ℕ) : Type 0 where
  pub prefix : List (List ℕ)
  pub packet : List ℕ
  pub passed_are : passed ≡ prefix ++ packet ∷ []
  pub none_before : BeginsNone a.apid a.state prefix
  pub starts : Starts a.apid (after_all a.apid a.state prefix) packet start
  pub text_is : text ≡ text_after packet start.head

-- Some calls continued within a text: packets were passed, and at each read call the octets that were taken so far left the text of the
-- same segment open. If no other segment was begun, that segment is still the last one's; otherwise the last packet that was passed begins
-- the other one, and no call goes further.
pub record Continues (old new : Outside) (a b : Assembling) : Type 0 where
  pub passed : List (List ℕ)
  pub passes : Passes (StaysOpen a) old new a b passed
  pub still : b.held ≡ None → (a.held ≡ None) × StaysAt a b.state
  pub begins_none : b.held ≡ None → BeginsNone a.apid a.state passed
  pub began : a.held ≡ None → (start : SegmentStart) → b.held ≡ Some start → BeganAt a passed start b.text
  pub held_on : (start : SegmentStart) → a.held ≡ Some start → (passed ≡ []) × (b.held ≡ Some start) × (b.text ≡ a.text)
