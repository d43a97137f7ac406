-- A step of a reader without an assembly, for calls that need the packets alone. This project's own.
use Rattle.std.specs.Prelude.{◌≡◌, ℕ, List, [], length, Option, None, Some, Ok, Err}
use Rattle.bit_pipe.specs.declared.fault.InFault.TheVariants as in_faults
use Rattle.port_122.specs.Outside.{Outside}
use Rattle.packet_defs.specs.declared.packet.Framing.{Framing}
use Rattle.packet_defs.specs.declared.packet.PacketRead.{PacketRead}
use Rattle.packet_defs.specs.declared.packet.PacketRead.TheVariants.{Mine, Skipped, Ended, Fault}
use Rattle.stream_defs.specs.Fates.{fresh, after_all}
use Rattle.space_packets.specs.Intake.{Intake, end_read, verdict}
use Rattle.space_packets.specs.PacketReads.{TakenSoFar}
use Rattle.packet_assembly.specs.Assembling.{Assembling}

-- why a stream can't be read on, if this was read of it
abbrev pub framing_in : PacketRead → Option Framing
framing_in (Mine head ancillary) = None
framing_in (Skipped skip) = None
framing_in Ended = None
framing_in (Fault framing) = Some framing

-- what an assembly for this APID would be after these packets, with a reader in this state and this result at its end
abbrev pub reading : (apid : ℕ) → Intake → List (List ℕ) → Option Framing → Assembling
reading apid v passed found = record {
  apid = apid;
  intake = v;
  state = after_all apid fresh passed;
  packets = length passed;
  text = [];
  held = None;
  framing = found;
}

-- There is no next packet: the end was read, or what can't be read on.
pub record FindsEnd (apid : ℕ) (old new : Outside) (v : Intake) (found : Option Framing) : Type 0 where
  pub full : Intake
  pub taken : TakenSoFar old new v full
  pub over : verdict apid full ≡ Some (Ok (end_read found))

-- All octets that may be taken were taken.
pub record FindsCap (apid : ℕ) (old new : Outside) (v : Intake) : Type 0 where
  pub full : Intake
  pub taken : TakenSoFar old new v full
  pub over : verdict apid full ≡ Some (Err in_faults.LongInput)
