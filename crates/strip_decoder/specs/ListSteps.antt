-- The effect of a step that lists one packet. This project's own.
use Rattle.std.specs.Prelude.{◌≡◌, ◌≤◌, ◌⊎◌, ℕ, List, [], ◌++◌, length, take, Bool, true, false, Option, None, Some, Result, Ok, Err, MatchResult}
use Rattle.bit_pipe.specs.declared.fault.InFault.{InFault}
use Rattle.bit_pipe.specs.declared.fault.InFault.TheVariants as in_faults
use Rattle.port_122.specs.Outside.{Outside, Exchange, NoRead, Rose}
use Rattle.packet_defs.specs.Streams.{begins_packet}
use Rattle.packet_assembly.specs.declared.note.PacketNote.{PacketNote}
use Rattle.packet_assembly.specs.Assembling.{Assembling}
use Rattle.packet_assembly.specs.Notes.{ReadsNote}
use Rattle.strip_decoder.specs.declared.list.ListFault.{ListFault}
use Rattle.strip_decoder.specs.declared.list.ListFault.TheVariants.{ReadFault, WriteFault, LongInput, Memory}
use Rattle.strip_decoder.specs.PacketLines.{line_of}

-- Of the lines that waited some were given and the others still wait: none, unless the next packet is whole.
pub record GaveDue (old new : Outside) (a : Assembling) (before waiting : List ℕ) : Type 0 where
  pub gave : List ℕ
  pub lines_are : gave ++ waiting ≡ before
  pub gives : Exchange old new [] gave [] NoRead
  pub due : (waiting ≡ []) ⊎ (begins_packet a.intake.pending ≡ true)

-- a write of the lines that waited failed
pub record GavePart (old new : Outside) (before : List ℕ) : Type 0 where
  pub rose : Rose old.write_faults new.write_faults
  pub some : ℕ
  pub within : some ≤ length before
  pub gives : Exchange old new [] (take some before) [] NoRead

abbrev pub GivesDue : {T E : Type 0} → (old new : Outside) → Assembling → (before waiting : List ℕ) → Result T E → Type 0
GivesDue old new a before waiting result = MatchResult result (λ _. GaveDue old new a before waiting) (λ _. GavePart old new before)

-- what was due was given, and then this read
pub record ListsThen (old new : Outside) (a b : Assembling) (before waiting : List ℕ) (read : Result (Option PacketNote) InFault) : Type 0 where
  pub between : Outside
  pub given : GaveDue old between a before waiting
  pub reads : ReadsNote between new a b read

-- a packet was read, and its line waits
pub record ListsOne (old new : Outside) (a b : Assembling) (before waiting : List ℕ) : Type 0 where
  pub note : PacketNote
  pub earlier : List ℕ
  pub lists : ListsThen old new a b before earlier (Ok (Some note))
  pub lines_are : waiting ≡ earlier ++ line_of note

abbrev pub ListsNext : (old new : Outside) (a b : Assembling) (before waiting : List ℕ) → Result Bool ListFault → Type 0
ListsNext old new a b before waiting (Ok true) = ListsOne old new a b before waiting
ListsNext old new a b before waiting (Ok false) = ListsThen old new a b before waiting (Ok None)
ListsNext old new a b before waiting (Err ReadFault) = ListsThen old new a b before waiting (Err in_faults.ReadFault)
ListsNext old new a b before waiting (Err LongInput) = ListsThen old new a b before waiting (Err in_faults.LongInput)
ListsNext old new a b before waiting (Err WriteFault) = GavePart old new before
ListsNext old new a b before waiting (Err Memory) = ⊥
