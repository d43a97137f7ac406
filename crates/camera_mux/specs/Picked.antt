-- The packets of a stream that are picked by their APID, and by their image if one is wanted. This project's own.
use Rattle.std.specs.Prelude.{ℕ, ◌==◌, ◌&&◌, Bool, is_none, List, filter, Option, None, Some}
use Rattle.packet_defs.specs.Packets.{joined}
use Rattle.packet_defs.specs.Reading.{apid_in, ancillary_in, skip_of}
use Rattle.packet_defs.specs.Streams.{whole_packets}

-- A packet is picked if it has this APID. If an image is wanted, it is one of an image with this APID, and has that number.
abbrev pub is_picked : (apid : ℕ) (image : Option ℕ) → List ℕ → Bool
is_picked apid None packet = apid_in packet == apid
is_picked apid (Some number) packet = is_none (skip_of apid packet) && ((ancillary_in packet).image == number)

-- those of some packets, in order
abbrev pub picked_of : (apid : ℕ) (image : Option ℕ) → List (List ℕ) → List (List ℕ)
picked_of apid image packets = filter (is_picked apid image) packets

-- the octets of those of the whole packets of a stream of octets
abbrev pub picked : List ℕ → (apid : ℕ) (image : Option ℕ) → List ℕ
picked octets apid image = joined (picked_of apid image (whole_packets octets))
