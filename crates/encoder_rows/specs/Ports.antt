-- The two ports of an encoder: one reads octets in memory, the other keeps the packets of a call. This project's own.
use Rattle.std.specs.Prelude.{ℕ, List, [], take, drop, Some, None}
use Rattle.std.specs.List.{range_with_len}
use Rattle.port_122.specs.Outside.{Outside}
use Rattle.encoder_rows.specs.declared.ports.OctetsIn.{OctetsIn}
use Rattle.encoder_rows.specs.declared.ports.PacketRoom.{PacketRoom}

-- it reports what was read, and nothing that it is given
abbrev pub octets_outside : OctetsIn → Outside
octets_outside p = record {
  rest = Some (drop p.at p.octets.now);
  taken = Some (take p.at p.octets.now);
  given = None;
  noted = None;
  asked = None;
  read_faults = 0;
  write_faults = 0;
  note_faults = 0;
}

-- A room of this size that keeps these octets, after this number of failed writes. No call changes the size, so it is reported as what
-- never changes either: the number of octets that were taken.
abbrev pub room_outside : (size : ℕ) → (kept : List ℕ) → (faults : ℕ) → Outside
room_outside size kept faults = record {
  rest = Some [];
  taken = Some (range_with_len 0 size);
  given = Some kept;
  noted = None;
  asked = None;
  read_faults = 0;
  write_faults = faults;
  note_faults = 0;
}

abbrev pub packets_outside : PacketRoom → Outside
packets_outside room = room_outside room.size room.kept.items room.faults
