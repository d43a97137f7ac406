-- The values that a packetiser's fields represent, and what holds of them. This project's own.
use Rattle.std.specs.Prelude.{◌+◌, ◌-◌, ◌*◌, ◌^◌, ◌≤◌, ◌<◌, length, drop, vec_capacity}
use Rattle.packet_defs.specs.Packets.{part_size}
use Rattle.space_packets.specs.declared.packetiser.Packetiser.TheInside.{Inside}
use Rattle.space_packets.specs.Progress.{Progress}
use Rattle.space_packets.specs.Stages.{apid_of, parts_of, open_texts, room_of}

-- the octets that wait are after the room for a header
abbrev pub progress : Inside → Progress
progress a = record {
  packet = a.packet;
  stage = a.stage;
  texts = a.texts;
  packets = a.packets;
  octets = a.octets;
  pending = drop 30 a.buffer.items;
}

-- A whole packet fits the buffer; and a text has at most 2 ^ 32 octets, so the counts of 2 ^ 28 texts stay below 2 ^ 64.
pub record IsSound (a : Inside) : Type 0 where
  pub least : 64 ≤ a.packet
  pub most : a.packet ≤ 65536
  pub room : a.packet + 6 ≤ vec_capacity a.buffer
  pub header : 30 ≤ length a.buffer.items
  pub pending : length a.buffer.items ≤ 30 + room_of a.stage (part_size a.packet)
  pub apid : apid_of a.stage < 2 ^ 11
  pub texts : a.texts ≤ 2 ^ 28
  pub begun : open_texts a.stage ≤ a.texts
  pub text : parts_of a.stage * part_size a.packet + (length a.buffer.items - 30) ≤ 2 ^ 32
  pub packets : a.packets + open_texts a.stage * 2 ^ 32 ≤ a.texts * 2 ^ 32 + parts_of a.stage
  pub octets : a.octets + open_texts a.stage * 2 ^ 34 ≤ a.texts * 2 ^ 34 + 2 * (parts_of a.stage * part_size a.packet)
