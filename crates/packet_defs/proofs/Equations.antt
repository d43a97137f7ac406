-- What the definitions of packets compute to: outside this crate these equations are cited, and nothing is unfolded.
use Rattle.std.proofs.Common.{◌≡◌, ℕ, List, [], ◌∷◌, length, map, not, ◌&&◌, refl, ◌==◌, nat_le, nat_lt}
use Rattle.std.specs.List.{range_with_len}
use Rattle.packet_defs.specs.declared.ancillary.Ancillary.{Ancillary}
use Rattle.packet_defs.specs.declared.packet.Skip.TheVariants.{Idle, NotTelemetry, OtherApid, NoSecondary, ShortAncillary, OtherMark}
use Rattle.packet_defs.specs.declared.packet.Framing.TheVariants.{BadVersion, CutPacket}
use Rattle.packet_defs.specs.Tests.{when, first_of}
use Rattle.packet_defs.specs.Packets.{ancillary_length, part_count, part_size, part_packet, text_packets}
use Rattle.packet_defs.specs.Reading.{header_length, idle_apid, apid_in, type_in, secondary_in, field_length, has_mark, skip_of, read_as, packet_read}
use Rattle.packet_defs.specs.Streams.{has_bad_version, reported_length, begins_packet, missing, framing_at}

pub text_packets-is : (apid : ℕ) (a : Ancillary) (packet before : ℕ) (text : List ℕ) →
    text_packets apid a packet before text ≡ map (λ part. part_packet apid a packet before (part_count (part_size packet) (length text)) part text)
    (range_with_len 0 (part_count (part_size packet) (length text)))
unfolding text_packets
text_packets-is apid a packet before text = refl

pub skip_of-is : (apid : ℕ) (packet : List ℕ) →
    skip_of apid packet ≡ first_of (when (apid_in packet == idle_apid) Idle ∷ when (type_in packet == 1) NotTelemetry ∷ when (not (apid_in packet == apid))
    OtherApid ∷ when (secondary_in packet == 0) NoSecondary ∷ when (nat_lt (field_length packet) ancillary_length) ShortAncillary
    ∷ when (not (has_mark packet)) OtherMark ∷ [])
unfolding skip_of
skip_of-is apid packet = refl

pub packet_read-is : (apid : ℕ) (packet : List ℕ) → packet_read apid packet ≡ read_as (skip_of apid packet) packet
unfolding packet_read
packet_read-is apid packet = refl

module _ (octets : List ℕ) where
  pub begins_packet-is : begins_packet octets ≡ (not (has_bad_version octets) && (nat_le header_length (length octets) && nat_le (reported_length octets)
      (length octets)))
  unfolding begins_packet
  begins_packet-is = refl

  pub framing_at-is : (place : ℕ) → framing_at place octets ≡ first_of (when (has_bad_version octets) (BadVersion place) ∷ when (not (length octets == 0))
      (CutPacket (missing octets)) ∷ [])
  unfolding framing_at
  framing_at-is place = refl
