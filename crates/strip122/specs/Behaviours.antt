-- What a command does is one record. This project's own.
use Rattle.std.specs.Prelude.{◌⊎◌, ℕ, List}
use Rattle.port_122.specs.Outside.{Outside, Rose}
use Rattle.strip122.specs.Ran.{LacksMemory}

-- All that is stated of a command: its effect for each status, of the outside before it and after it, and which octets it accepts as the
-- input that is left.
pub record Behaviour : Type 1 where
  pub performs : Outside → Outside → ℕ → Type 0
  pub accepts : List ℕ → Type 0

-- a command that takes its memory before anything else: if there is too little, nothing is read or given
abbrev pub memory_first : Behaviour → Behaviour
memory_first b = record { performs = λ old new status. LacksMemory old new status ⊎ b.performs old new status; accepts = b.accepts }

-- no read and no write has failed since
pub record IsSteady (old new : Outside) : Type 0 where
  pub reads : Rose old.read_faults new.read_faults → ⊥
  pub writes : Rose old.write_faults new.write_faults → ⊥
