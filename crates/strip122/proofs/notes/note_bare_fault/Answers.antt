use Rattle.std.proofs.Common.{rules, refl}
use Rattle.strip122.proofs.Reports.{bare_fault_line}
use Rattle.strip122.proofs.NoteLines.{notes_as}
use Rattle.strip122.proofs.notes.note_bare_fault.Goals as goal

pub returns-in-Refused : goal.returns-in-Refused
returns-in-Refused g c =
    notes_as (bare_fault_line c.args.fault) c.note_line.ensures (rw (c.in-Refused.is, c.as_str.ensures.value, c.segment_line.ensures) (search rules))

pub returns-in-LongInput : goal.returns-in-LongInput
returns-in-LongInput g c = notes_as (bare_fault_line c.args.fault) c.note_line-in-LongInput.ensures (rw c.in-LongInput.is refl)

pub returns-in-WriteFault : goal.returns-in-WriteFault
returns-in-WriteFault g c = notes_as (bare_fault_line c.args.fault) c.note_line-in-WriteFault.ensures (rw c.in-WriteFault.is refl)

pub returns-in-Memory : goal.returns-in-Memory
returns-in-Memory g c = notes_as (bare_fault_line c.args.fault) c.note_line-in-Memory.ensures (rw c.in-Memory.is refl)
