-- A port over a slice that never fails. This project's own.
use Rattle.std.specs.Prelude.{◌≡◌, ℕ, ◌+◌, ◌||◌, not, nat_le, false, true, IfSome, List, [], ◌++◌, length, Option, take, drop, Some, None, if◌then◌else◌}
use Rattle.port_122.specs.Outside.{Outside}
use Rattle.strip122_c.specs.declared.port.LentPort.{LentPort}

-- it reports what was read, and what it was given if that fits its room
abbrev pub outside_of : LentPort → Outside
outside_of p = record {
  rest = Some (drop p.at p.input.now);
  taken = Some (take p.at p.input.now);
  given = (if p.full then None else Some p.given.items);
  noted = None;
  asked = None;
  read_faults = 0;
  write_faults = 0;
  note_faults = 0;
}

-- nothing was given yet, and this is the room
pub record IsEmpty (room : Option ℕ) (p : LentPort) : Type 0 where
  pub room_is : p.room ≡ room
  pub none : p.given.items ≡ []
  pub unfull : p.full ≡ false

-- A write. The octets are kept after those before if all of these were kept and, if there is a room, exactly if all of them fit it.
pub record KeepsWhatFits (old new : LentPort) (octets : List ℕ) : Type 0 where
  pub same_room : new.room ≡ old.room
  pub same_input : (new.input.now ≡ old.input.now) × (new.at ≡ old.at)
  pub fits : IfSome old.room (λ room. new.full ≡ (old.full || not (nat_le (length old.given.items + length octets) room)))
  pub still : old.full ≡ true → new.full ≡ true
  pub given_is : new.given.items ≡ (if new.full then old.given.items else old.given.items ++ octets)
