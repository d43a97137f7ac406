-- The packets that carry a segment's text (CCSDS 133.0-B-2, section 4.1, for the primary header; the ancillary data, the parts
-- and the sequence count that begins with each image are this project's own).
use Rattle.std.specs.Prelude.{ℕ, ◌+◌, ◌-◌, ◌*◌, ◌/◌, ◌%◌, ◌^◌, ◌==◌, if◌then◌else◌, Bool, List, ◌++◌, length, map, take, drop}
use Rattle.std.specs.List.{range_with_len, flat_map}
use Rattle.byteorder.specs.Endian.{big_bytes}
use Rattle.packet_defs.specs.declared.ancillary.Ancillary.{Ancillary}

-- version 000, telemetry, with a secondary header, and the APID
abbrev pub identification : (apid : ℕ) → ℕ
identification apid = 2 ^ 11 + apid

-- sequence flags 01 for a first part, 00 for one between, 10 for the last, 11 for one that is alone, of n parts
abbrev pub sequence_flags : (part n : ℕ) → ℕ
sequence_flags part n = (if part == 0 then 1 else 0) + (if part + 1 == n then 2 else 0)

-- the flags, and the number of the packet in the image, modulo 2 ^ 14
abbrev pub sequence_control : (flags number : ℕ) → ℕ
sequence_control flags number = flags * 2 ^ 14 + number % 2 ^ 14

-- octets of the ancillary data
abbrev pub ancillary_length : ℕ
ancillary_length = 24

-- the mark of the ancillary data: one if they report the height of the image, another if the height is reported last
abbrev pub mark_of : (reported_last : Bool) → ℕ
mark_of reported_last = if reported_last then 0x1221 else 0x1220

abbrev pub ancillary_octets : Ancillary → List ℕ
ancillary_octets a =
    big_bytes 2 (mark_of a.reported_last) ++ big_bytes 2 a.image ++ big_bytes 4 a.rows ++ big_bytes 4 a.segment ++ big_bytes 4 a.index
    ++ big_bytes 4 a.first ++ big_bytes 4 a.part

-- a packet whose data field has these octets; the header has their number less 1
abbrev pub packet_with : (apid flags number : ℕ) → List ℕ → List ℕ
packet_with apid flags number field =
    big_bytes 2 (identification apid) ++ big_bytes 2 (sequence_control flags number) ++ big_bytes 2 (length field - 1) ++ field

-- ---- the parts of a text, each of the same number of octets except the last

-- the number of parts of a text of a number of octets; no octets have no part
abbrev pub part_count : (size octets : ℕ) → ℕ
part_count size octets = (octets + size - 1) / size

abbrev pub part_of : (size part : ℕ) → List ℕ → List ℕ
part_of size part text = take size (drop (part * size) text)

-- octets of text in a packet whose data field has at most this number of octets
abbrev pub part_size : (packet : ℕ) → ℕ
part_size packet = packet - ancillary_length

-- the packet of one part, of n; the image has `before` packets before this text
abbrev pub part_packet : (apid : ℕ) (a : Ancillary) (packet before n part : ℕ) → List ℕ → List ℕ
part_packet apid a packet before n part text =
    packet_with apid (sequence_flags part n) (before + part)
    (ancillary_octets (record a { part = part }) ++ part_of (part_size packet) part text)

-- all packets of a text, in order
unfoldable pub text_packets : (apid : ℕ) (a : Ancillary) (packet before : ℕ) → List ℕ → List (List ℕ)
text_packets apid a packet before text =
    let n = part_count (part_size packet) (length text) in
    map (λ part. part_packet apid a packet before n part text) (range_with_len 0 n)

-- the octets of packets, one after another
abbrev pub joined : List (List ℕ) → List ℕ
joined packets = flat_map (λ packet. packet) packets
