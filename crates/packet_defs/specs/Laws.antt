-- The laws of packets. This project's own.
use Rattle.std.specs.Prelude.{◌≡◌, ℕ, List, ◌++◌, None}
use Rattle.packet_defs.specs.declared.ancillary.Ancillary.{Ancillary}
use Rattle.packet_defs.specs.Packets.{packet_with, ancillary_octets}
use Rattle.packet_defs.specs.Reading.{skip_of, flags_in, ancillary_in, text_in}
use Rattle.packet_defs.specs.Streams.{IsPacket, Splits, whole_packets, left_over}
use Rattle.packet_defs.specs.Written.{CanBeWritten}

-- a packet is read as it was written
pub record ReadsBack (apid flags : ℕ) (a : Ancillary) (text packet : List ℕ) : Type 0 where
  pub whole : IsPacket packet
  pub mine : skip_of apid packet ≡ None
  pub flags_are : flags_in packet ≡ flags
  pub ancillary_is : ancillary_in packet ≡ a
  pub text_is : text_in packet ≡ text

pub record PacketsReadBack : Type 0 where
  pub each : (apid flags number : ℕ) (a : Ancillary) (text : List ℕ) → CanBeWritten apid flags a text →
      ReadsBack apid flags a text (packet_with apid flags number (ancillary_octets a ++ text))

-- a stream is whole packets and a rest in exactly one way
pub record StreamsSplit : Type 0 where
  pub some : (octets : List ℕ) → Splits octets (whole_packets octets) (left_over octets)
  pub only : (octets : List ℕ) (packets : List (List ℕ)) (left : List ℕ) → Splits octets packets left → whole_packets octets ≡ packets
  pub left : (octets : List ℕ) (packets : List (List ℕ)) (left : List ℕ) → Splits octets packets left → left_over octets ≡ left
