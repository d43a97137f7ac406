-- The fields of a packet (CCSDS 133.0-B-2, section 4.1, for the primary header; the ancillary data and the order of the tests are this
-- project's own).
use Rattle.std.specs.Prelude.{ℕ, ◌+◌, ◌/◌, ◌%◌, ◌^◌, ◌==◌, ◌||◌, Bool, true, false, not, nat_lt, List, [], ◌∷◌, drop, Option, None, Some}
use Rattle.byteorder.specs.Endian.{big_number}
use Rattle.packet_defs.specs.declared.ancillary.Ancillary.{Ancillary}
use Rattle.packet_defs.specs.declared.packet.PacketHead.{PacketHead}
use Rattle.packet_defs.specs.declared.packet.Skip.{Skip}
use Rattle.packet_defs.specs.declared.packet.Skip.TheVariants.{Idle, NotTelemetry, OtherApid, NoSecondary, ShortAncillary, OtherMark}
use Rattle.packet_defs.specs.declared.packet.PacketRead.{PacketRead}
use Rattle.packet_defs.specs.declared.packet.PacketRead.TheVariants.{Mine, Skipped}
use Rattle.packet_defs.specs.Packets.{ancillary_length, mark_of}
use Rattle.packet_defs.specs.Tests.{when, first_of}

-- octets of the primary header
abbrev pub header_length : ℕ
header_length = 6

-- octets before the text
abbrev pub prefix_length : ℕ
prefix_length = header_length + ancillary_length

-- the number in a number of octets of a packet, from a place on
abbrev pub number_at : List ℕ → (place size : ℕ) → ℕ
number_at packet place size = big_number size (drop place packet)

-- ---- the primary header

-- 1 for telecommands
abbrev pub type_in : List ℕ → ℕ
type_in packet = number_at packet 0 2 / 2 ^ 12 % 2

-- 1 if there is a secondary header
abbrev pub secondary_in : List ℕ → ℕ
secondary_in packet = number_at packet 0 2 / 2 ^ 11 % 2

abbrev pub apid_in : List ℕ → ℕ
apid_in packet = number_at packet 0 2 % 2 ^ 11

abbrev pub flags_in : List ℕ → ℕ
flags_in packet = number_at packet 2 2 / 2 ^ 14

abbrev pub count_in : List ℕ → ℕ
count_in packet = number_at packet 2 2 % 2 ^ 14

-- octets of the data field
abbrev pub field_length : List ℕ → ℕ
field_length packet = number_at packet 4 2 + 1

abbrev pub head_in : List ℕ → PacketHead
head_in packet = record {
  apid = apid_in packet;
  flags = flags_in packet;
  count = count_in packet;
  length = field_length packet;
}

-- ---- the data field

abbrev pub mark_in : List ℕ → ℕ
mark_in packet = number_at packet 6 2

abbrev pub ancillary_in : List ℕ → Ancillary
ancillary_in packet = record {
  reported_last = mark_in packet == mark_of true;
  image = number_at packet 8 2;
  rows = number_at packet 10 4;
  segment = number_at packet 14 4;
  index = number_at packet 18 4;
  first = number_at packet 22 4;
  part = number_at packet 26 4;
}

abbrev pub text_in : List ℕ → List ℕ
text_in packet = drop prefix_length packet

-- ---- whether it is one of the image's

-- the APID of idle packets
abbrev pub idle_apid : ℕ
idle_apid = 2047

abbrev pub has_mark : List ℕ → Bool
has_mark packet = (mark_in packet == mark_of false) || (mark_in packet == mark_of true)

-- why a packet is none of an image with this APID: the first of these that is so
unfoldable pub skip_of : (apid : ℕ) → List ℕ → Option Skip
skip_of apid packet = first_of (
    when (apid_in packet == idle_apid) Idle
    ∷ when (type_in packet == 1) NotTelemetry
    ∷ when (not (apid_in packet == apid)) OtherApid
    ∷ when (secondary_in packet == 0) NoSecondary
    ∷ when (nat_lt (field_length packet) ancillary_length) ShortAncillary
    ∷ when (not (has_mark packet)) OtherMark
    ∷ []
    )

abbrev pub read_as : Option Skip → List ℕ → PacketRead
read_as None packet = Mine (head_in packet) (ancillary_in packet)
read_as (Some skip) packet = Skipped skip

-- what is read of a whole packet
unfoldable pub packet_read : (apid : ℕ) → List ℕ → PacketRead
packet_read apid packet = read_as (skip_of apid packet) packet
