-- The progress of a packetiser, and the packets that octets complete. This project's own.
use Rattle.std.specs.Prelude.{ℕ, ◌≡◌, ◌≤◌, ◌+◌, ◌*◌, true, false, List, [], ◌++◌, length, map, drop}
use Rattle.std.specs.List.{range_with_len}
use Rattle.packet_defs.specs.Packets.{part_of, part_size, part_count, text_packets, joined}
use Rattle.space_packets.specs.declared.stage.PacketiserState.{PacketiserState}
use Rattle.space_packets.specs.declared.stage.PacketiserState.TheVariants.{Idle, Begun, Broken}
use Rattle.space_packets.specs.declared.stage.Text.{Text}
use Rattle.space_packets.specs.Stages.{given_in}
use Rattle.space_packets.specs.Parts.{full_parts, text_at, packet_of}

-- The most octets of a packet's data field; the stage; the texts that were begun, the packets that were written and their octets, since the
-- count of packets began; and the octets of the begun text that are in no packet yet.
pub record Progress : Type 0 where
  pub packet : ℕ
  pub stage : PacketiserState
  pub texts : ℕ
  pub packets : ℕ
  pub octets : ℕ
  pub pending : List ℕ

-- the octets that the begun text was given; if no text is begun, no octets fit
abbrev pub given_octets : Progress → ℕ
given_octets v = given_in v.stage (part_size v.packet) (length v.pending)

-- nothing was begun yet
abbrev pub fresh : (packet : ℕ) → Progress
fresh packet = record { packet = packet; stage = Idle; texts = 0; packets = 0; octets = 0; pending = [] }

-- a text is begun
abbrev pub begun : Progress → Text → Progress
begun v t = record v { stage = Begun t; texts = v.texts + 1; pending = [] }

-- this text is begun, and takes octets
pub record IsOpen (t : Text) (v : Progress) : Type 0 where
  pub stage : v.stage ≡ Begun t
  pub packet : 64 ≤ v.packet
  pub pending : length v.pending ≤ part_size v.packet

-- ---- a text is continued by these octets

-- the number of full packets that are written then
abbrev pub full_count : Progress → List ℕ → ℕ
full_count v octets = full_parts (part_size v.packet) (length (v.pending ++ octets))

-- each of them
abbrev pub full_packet : Text → Progress → List ℕ → (part : ℕ) → List ℕ
full_packet t v octets part =
    packet_of (text_at t part) (v.packets + part) false (part_of (part_size v.packet) part (v.pending ++ octets))

-- the first of them
unfoldable pub first_packets : Text → Progress → List ℕ → (count : ℕ) → List (List ℕ)
first_packets t v octets count = map (full_packet t v octets) (range_with_len 0 count)

-- the octets of the first of them
abbrev pub first_octets : Text → Progress → List ℕ → (count : ℕ) → List ℕ
first_octets t v octets count = joined (first_packets t v octets count)

-- the octets of them all
abbrev pub written : Text → Progress → List ℕ → List ℕ
written t v octets = first_octets t v octets (full_count v octets)

-- the state after them
abbrev pub after : Text → Progress → List ℕ → Progress
after t v octets = let count = full_count v octets in record v {
  stage = Begun (text_at t count);
  packets = v.packets + count;
  octets = v.octets + length (written t v octets);
  pending = drop (count * part_size v.packet) (v.pending ++ octets);
}

-- the state after a write failed when a number of them were written
abbrev pub broken : Text → Progress → List ℕ → (count : ℕ) → Progress
broken t v octets count = record v {
  stage = Broken;
  packets = v.packets + count;
  octets = v.octets + length (first_octets t v octets count);
  pending = [];
}

-- ---- one packet

-- the last packet of a text
abbrev pub last_packet : Text → Progress → List ℕ
last_packet t v = packet_of t v.packets true v.pending

-- the state after a packet of all octets that wait
abbrev pub past_packet : Progress → PacketiserState → (packet : List ℕ) → Progress
past_packet v next packet = record v { stage = next; packets = v.packets + 1; octets = v.octets + length packet; pending = [] }

-- the state after its write failed
abbrev pub stopped : Progress → Progress
stopped v = record v { stage = Broken; pending = [] }

-- the state after a whole text
abbrev pub ended : Progress → Text → List ℕ → Progress
ended v t text = record v {
  stage = Idle;
  texts = v.texts + 1;
  packets = v.packets + part_count (part_size v.packet) (length text);
  octets = v.octets + length (joined (text_packets t.apid t.ancillary v.packet v.packets text));
  pending = [];
}
