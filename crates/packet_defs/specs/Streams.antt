-- A stream of octets as packets, and why it can't be read on (CCSDS 133.0-B-2, section 4.1; that a version is tested at a
-- packet's first octet, and what is counted as missing, is this project's own).
use Rattle.std.specs.Prelude.{◌≡◌, ℕ, zero, suc, ◌+◌, ◌-◌, ◌^◌, ◌&&◌, ◌==◌, Bool, false, not, nat_le, nat_lt, if◌then◌else◌, List, [], ◌∷◌, ◌++◌, length}
use Rattle.std.specs.Prelude.{take, drop, slice_index, Option}
use Rattle.std.specs.List.{AllByRecursion}
use Rattle.packet_defs.specs.declared.packet.Framing.{Framing}
use Rattle.packet_defs.specs.declared.packet.Framing.TheVariants.{BadVersion, CutPacket}
use Rattle.packet_defs.specs.Packets.{joined}
use Rattle.packet_defs.specs.Tests.{when, first_of}
use Rattle.packet_defs.specs.Reading.{header_length, field_length}

-- the first three bits, the version, aren't 000
abbrev pub has_bad_version : List ℕ → Bool
has_bad_version octets = nat_le (2 ^ 5) (slice_index octets 0)

-- octets of the packet with which octets begin, by its header
unfoldable pub reported_length : List ℕ → ℕ
reported_length octets = header_length + field_length octets

-- these octets begin with a whole packet
unfoldable pub begins_packet : List ℕ → Bool
begins_packet octets =
    not (has_bad_version octets) && (nat_le header_length (length octets) && nat_le (reported_length octets) (length octets))

-- that packet, and what follows it
abbrev pub first_packet : List ℕ → List ℕ
first_packet octets = take (reported_length octets) octets

abbrev pub after_packet : List ℕ → List ℕ
after_packet octets = drop (reported_length octets) octets

-- these octets are one whole packet
pub record IsPacket (packet : List ℕ) : Type 0 where
  pub version : has_bad_version packet ≡ false
  pub whole : length packet ≡ reported_length packet

-- these octets are whole packets and then a rest that begins with none
pub record Splits (octets : List ℕ) (packets : List (List ℕ)) (left : List ℕ) : Type 0 where
  pub octets_are : octets ≡ joined packets ++ left
  pub packets_are : AllByRecursion IsPacket packets
  pub none_left : begins_packet left ≡ false

-- the first whole packets, at most `most`
unfoldable pub packets_within : (most : ℕ) → List ℕ → List (List ℕ)
packets_within zero octets = []
packets_within (suc most) octets =
    if begins_packet octets then first_packet octets ∷ packets_within most (after_packet octets) else []

-- all whole packets before the end or what can't be read on
abbrev pub whole_packets : List ℕ → List (List ℕ)
whole_packets octets = packets_within (length octets) octets

-- octets of these packets: the place at which what follows them begins
abbrev pub place_after : List ℕ → ℕ
place_after octets = length (joined (whole_packets octets))

-- the octets after the whole packets
abbrev pub left_over : List ℕ → List ℕ
left_over octets = drop (place_after octets) octets

-- the missing octets of a packet that begins with these: of its primary header if that is cut, otherwise of its data field
abbrev pub missing : List ℕ → ℕ
missing left = if nat_lt (length left) header_length then header_length - length left else reported_length left - length left

-- why octets at a place, which begin with no whole packet, can't be read on, if the input ends after them
unfoldable pub framing_at : (place : ℕ) → List ℕ → Option Framing
framing_at place left = first_of (
    when (has_bad_version left) (BadVersion place)
    ∷ when (not (length left == 0)) (CutPacket (missing left))
    ∷ []
    )

-- why a stream that ends after these octets can't be read to its end, if it can't
abbrev pub framing : List ℕ → Option Framing
framing octets = framing_at (place_after octets) (left_over octets)
