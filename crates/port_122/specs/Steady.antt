-- A port over memory that never fails. This project's own.
use Rattle.std.specs.Prelude.{◌+◌, ℕ, List, ◌++◌, length, take, drop, Option, Some, None, nat_le, if◌then◌else◌}
use Rattle.port_122.specs.Outside.{Outside}
use Rattle.port_122.specs.declared.steady.SteadyPort.{SteadyPort}

-- the octets that are still to be read
abbrev pub octets_left : SteadyPort → List ℕ
octets_left s = drop s.at s.input.items

-- it reports what it keeps, while that fits its room, and no read calls
abbrev pub outside_of : SteadyPort → Outside
outside_of s = record {
  rest = Some (octets_left s);
  taken = Some (take s.at s.input.items);
  given = (if s.given_full then None else Some s.given.items);
  noted = (if s.noted_full then None else Some s.noted.items);
  asked = None;
  read_faults = 0;
  write_faults = 0;
  note_faults = 0;
}

-- what is known of the octets that are kept in this room, after more of them
abbrev pub known_after : ℕ → Option (List ℕ) → List ℕ → Option (List ℕ)
known_after room None octets = None
known_after room (Some kept) octets = if nat_le (length kept + length octets) room then Some (kept ++ octets) else None
