-- The effect of a call that passes one packet. This project's own.
use Rattle.std.specs.Prelude.{◌≡◌, ℕ, ◌+◌, if◌then◌else◌, List, [], length, drop, Option, None, Some, Result, Ok, Err}
use Rattle.bit_pipe.specs.declared.fault.InFault.{InFault}
use Rattle.segment_defs.specs.declared.head.SegmentHead.{SegmentHead}
use Rattle.segment_defs.specs.Head.{head_length}
use Rattle.port_122.specs.Outside.{Outside}
use Rattle.packet_defs.specs.declared.ancillary.Ancillary.{Ancillary}
use Rattle.packet_defs.specs.declared.packet.Framing.{Framing}
use Rattle.packet_defs.specs.declared.packet.PacketRead.{PacketRead}
use Rattle.packet_defs.specs.declared.packet.PacketRead.TheVariants.{Mine, Skipped, Ended, Fault}
use Rattle.packet_defs.specs.Reading.{ancillary_in, text_in}
use Rattle.packet_defs.specs.Streams.{first_packet}
use Rattle.stream_defs.specs.declared.fate.Fate.{Fate}
use Rattle.stream_defs.specs.declared.fate.FateState.{FateState}
use Rattle.stream_defs.specs.declared.fate.Fate.TheVariants as fates
use Rattle.stream_defs.specs.Fates.{fate, after, is_kept}
use Rattle.space_packets.specs.Intake.{Intake, fed}
use Rattle.space_packets.specs.PacketReads.{ReadsPacket}
use Rattle.packet_assembly.specs.declared.note.PacketNote.{PacketNote}
use Rattle.packet_assembly.specs.declared.note.SegmentStart.{SegmentStart}
use Rattle.packet_assembly.specs.declared.note.Passed.{Passed}
use Rattle.packet_assembly.specs.Assembling.{Assembling}
use Rattle.packet_assembly.specs.Classification.{head_known}

-- ---- what a packet adds

-- the report of a packet with this fate and number
abbrev pub note_of : (number : ℕ) → Fate → List ℕ → PacketNote
note_of number (fates.Skipped skip) packet = record { number = number; fate = fates.Skipped skip; index = 0; part = 0; octets = 0 }
note_of number fate packet = record {
  number = number;
  fate = fate;
  index = (ancillary_in packet).index;
  part = (ancillary_in packet).part;
  octets = length (text_in packet);
}

abbrev pub head_octets : Option SegmentHead → ℕ
head_octets None = 0
head_octets (Some head) = head_length head

-- the segment that begins with a packet with these ancillary data, if there is a header in it
abbrev pub start_of : Ancillary → Option SegmentHead → Option SegmentStart
start_of a None = None
start_of a (Some head) = Some (record { ancillary = a; head = head })

-- the octets of a packet's text that are its segment's after the head; of a packet that isn't kept there are none
unfoldable pub text_brought : (apid : ℕ) → FateState → List ℕ → List ℕ
text_brought apid s packet =
    if is_kept (fate apid s packet) then drop (head_octets (head_known (ancillary_in packet) (text_in packet))) (text_in packet) else []

-- the segment that a packet begins
unfoldable pub start_brought : (apid : ℕ) → FateState → List ℕ → Option SegmentStart
start_brought apid s packet =
    if is_kept (fate apid s packet) then start_of (ancillary_in packet) (head_known (ancillary_in packet) (text_in packet)) else None

-- ---- one step

-- the report of the packet with which octets begin
abbrev pub note_next : Assembling → List ℕ → PacketNote
note_next a octets = note_of a.packets (fate a.apid a.state (first_packet octets)) (first_packet octets)

abbrev pub passed_next : Assembling → List ℕ → Passed
passed_next a octets = record { note = note_next a octets; start = start_brought a.apid a.state (first_packet octets) }

-- what is returned if this was read of octets that begin with the packet
abbrev pub passed_for : Assembling → List ℕ → Result PacketRead InFault → Result (Option Passed) InFault
passed_for a octets (Ok (Mine head ancillary)) = Ok (Some (passed_next a octets))
passed_for a octets (Ok (Skipped skip)) = Ok (Some (passed_next a octets))
passed_for a octets (Ok Ended) = Ok None
passed_for a octets (Ok (Fault fault)) = Ok None
passed_for a octets (Err fault) = Err fault

abbrev pub note_in : Result (Option Passed) InFault → Result (Option PacketNote) InFault
note_in (Ok None) = Ok None
note_in (Ok (Some passed)) = Ok (Some passed.note)
note_in (Err fault) = Err fault

-- an assembly after the packet with which octets begin
abbrev pub past_next : Assembling → List ℕ → Intake → Assembling
past_next a octets intake = record a {
  intake = intake;
  state = after a.apid a.state (first_packet octets);
  packets = a.packets + 1;
  text = text_brought a.apid a.state (first_packet octets);
}

-- an assembly after no packet
abbrev pub at_end : Assembling → Intake → Option Framing → Assembling
at_end a intake framing = record a { intake = intake; text = []; framing = framing }

-- the state after this was read
abbrev pub valid_after : Assembling → List ℕ → Result PacketRead InFault → Intake → Assembling
valid_after a octets (Ok (Mine head ancillary)) intake = past_next a octets intake
valid_after a octets (Ok (Skipped skip)) intake = past_next a octets intake
valid_after a octets (Ok Ended) intake = at_end a intake None
valid_after a octets (Ok (Fault fault)) intake = at_end a intake (Some fault)
valid_after a octets (Err fault) intake = at_end a intake a.framing

-- One read of the reader, and its effect on the fates: each step of the code is one step of the fold.
pub record PassesNext (old new : Outside) (a b : Assembling) (result : Result (Option Passed) InFault) : Type 0 where
  pub read : Result PacketRead InFault
  pub reads : ReadsPacket a.apid old new a.intake b.intake read
  pub answer : result ≡ passed_for a (fed a.intake reads.took reads.saw_end).pending read
  pub valid : b ≡ valid_after a (fed a.intake reads.took reads.saw_end).pending read b.intake

-- the same, if only the packet's note is returned
pub record ReadsNote (old new : Outside) (a b : Assembling) (result : Result (Option PacketNote) InFault) : Type 0 where
  pub step : Result (Option Passed) InFault
  pub passes : PassesNext old new a b step
  pub answer : result ≡ note_in step
