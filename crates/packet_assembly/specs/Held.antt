-- The values that an assembly's fields represent, what holds of them, and the effect of one packet by its fields. This project's own.
use Rattle.std.specs.Prelude.{◌≡◌, ◌≤◌, ◌<◌, ◌+◌, ◌-◌, ◌^◌, ℕ, [], length, drop, Some, None, Result, Ok, Err, Option}
use Rattle.segment_defs.specs.declared.head.SegmentHead.{SegmentHead}
use Rattle.packet_defs.specs.declared.ancillary.Ancillary.{Ancillary}
use Rattle.packet_defs.specs.declared.packet.PacketHead.{PacketHead}
use Rattle.packet_defs.specs.declared.packet.Skip.{Skip}
use Rattle.packet_defs.specs.declared.packet.Framing.{Framing}
use Rattle.packet_defs.specs.declared.packet.PacketRead.TheVariants.{Fault}
use Rattle.space_packets.specs.Intake.{Intake, verdict}
use Rattle.stream_defs.specs.declared.fate.Fate.{Fate}
use Rattle.stream_defs.specs.declared.fate.Fate.TheVariants.{Kept, Skipped}
use Rattle.packet_assembly.specs.declared.assembly.Assembly.TheInside.{Inside}
use Rattle.packet_assembly.specs.declared.note.PacketNote.{PacketNote}
use Rattle.packet_assembly.specs.declared.note.Passed.{Passed}
use Rattle.packet_assembly.specs.Assembling.{Assembling}
use Rattle.packet_assembly.specs.Classification.{classified, past_kept}
use Rattle.packet_assembly.specs.Notes.{head_octets, start_of}
use Rattle.packet_assembly.specs.Ranged.{IsRanged}

-- the octets that weren't given yet are in the reader's text
abbrev pub assembling : Inside → Assembling
assembling a = record {
  apid = a.apid;
  intake = a.reader;
  state = a.state;
  packets = a.packets;
  text = drop a.next a.reader.text;
  held = a.held;
  framing = a.framing;
}

-- the reader is at the octet at which it returns this fault
abbrev pub IsValidAtFault : (apid : ℕ) → Intake → Framing → Type 0
IsValidAtFault apid v fault = verdict apid v ≡ Some (Ok (Fault fault))

-- Each packet that was passed had at least one octet; a geometry that is known is in range; and if a reason was found why the stream can't
-- be read on, it is true.
pub record IsAssembled (a : Inside) : Type 0 where
  pub place : a.next ≤ length a.reader.text
  pub counted : a.packets + length a.reader.pending ≤ a.reader.taken
  pub capped : a.reader.taken ≤ a.reader.cap
  pub cap : a.reader.cap < 2 ^ 64
  pub range : IsRanged a.state
  pub framing : (fault : Framing) → a.framing ≡ Some fault → IsValidAtFault a.apid a.reader fault

-- ---- a packet of the image that was read, by what it says

abbrev pub note_known : Assembling → Fate → PacketHead → Ancillary → PacketNote
note_known v fate head a = record { number = v.packets; fate = fate; index = a.index; part = a.part; octets = head.length - 24 }

abbrev pub known_by : Assembling → PacketHead → Ancillary → Result (Option SegmentHead) Fate → Passed
known_by v head a (Ok found) = record { note = note_known v Kept head a; start = start_of a found }
known_by v head a (Err refusal) = record { note = note_known v refusal head a; start = None }

abbrev pub after_by : Assembling → PacketHead → Ancillary → Result (Option SegmentHead) Fate → Assembling
after_by v head a (Ok found) = record v {
  state = past_kept v.state head.flags a found;
  packets = v.packets + 1;
  text = drop (head_octets found) v.intake.text;
}
after_by v head a (Err refusal) = record v { packets = v.packets + 1; text = [] }

abbrev pub known_mine : Assembling → PacketHead → Ancillary → Passed
known_mine v head a = known_by v head a (classified v.state head.flags a v.intake.text)

abbrev pub after_mine : Assembling → PacketHead → Ancillary → Assembling
after_mine v head a = after_by v head a (classified v.state head.flags a v.intake.text)

-- ---- another packet that was read

abbrev pub known_other : Assembling → Skip → Passed
known_other v skip =
    record { note = record { number = v.packets; fate = Skipped skip; index = 0; part = 0; octets = 0 }; start = None }

abbrev pub after_other : Assembling → Assembling
after_other v = record v { packets = v.packets + 1; text = [] }
