-- A port over memory: the octets that it reports, and which of its calls fail. This project's own.
use Rattle.std.specs.Prelude.{◌≡◌, ◌⊎◌, ◌+◌, ◌-◌, ◌^◌, ℕ, List, [], min, take, drop, Some, Result, IsErr, IfOk, OnErr, IsTrue, Contains}
use Rattle.port_122.specs.Outside.{Outside}
use Rattle.port_122.specs.declared.memory.MemoryPort.{MemoryPort}

-- the octets that are still to be read
abbrev pub octets_left : MemoryPort → List ℕ
octets_left m = drop m.at m.input.items

-- the octets that were read
abbrev pub octets_taken : MemoryPort → List ℕ
octets_taken m = take m.at m.input.items

-- it reports all of its octets
abbrev pub outside_of : MemoryPort → Outside
outside_of m = record {
  rest = Some (octets_left m);
  taken = Some (octets_taken m);
  given = Some m.given.items;
  noted = Some m.noted.items;
  asked = Some m.asked.items;
  read_faults = m.read_faults;
  write_faults = m.write_faults;
  note_faults = m.note_faults;
}

-- The port before its first call: all of the input is left, nothing was done, and the calls of these numbers will fail.
pub record IsFresh (m : MemoryPort) (input fail : List ℕ) (piece : ℕ) : Type 0 where
  pub outside : outside_of m ≡ record {
    rest = Some input;
    taken = Some [];
    given = Some [];
    noted = Some [];
    asked = Some [];
    read_faults = 0;
    write_faults = 0;
    note_faults = 0;
  }
  pub fails : m.fail.items ≡ fail
  pub moves : m.piece ≡ piece
  pub calls : m.calls ≡ 0
  pub starved : IsTrue m.starved → ⊥

-- the next call has a number that fails
abbrev pub FailsByNumber : MemoryPort → Type 0
FailsByNumber m = Contains m.fail.items m.calls ⊎ (m.calls ≡ 2 ^ 64 - 1)

-- One call that could move this number of octets: its number is counted, it fails by its number or otherwise only for
-- lack of memory, which is reported from then on, and it moves all that it could within one piece.
pub record Call {E : Type 0} (old new : MemoryPort) (could : ℕ) (result : Result ℕ E) : Type 0 where
  pub counted : new.calls ≡ min (old.calls + 1) (2 ^ 64 - 1)
  pub fails : new.fail.items ≡ old.fail.items
  pub piece : new.piece ≡ old.piece
  pub by_number : FailsByNumber old → IsErr result
  pub by_want : OnErr result (FailsByNumber old ⊎ IsTrue new.starved)
  pub starved_stays : IsTrue old.starved → IsTrue new.starved
  pub starved_arrives : IsTrue new.starved → IsTrue old.starved ⊎ (IsErr result × ¬ FailsByNumber old)
  pub moves : IfOk result (λ n. n ≡ min old.piece could)
