use Rattle.std.proofs.Common.{rules, refl}
use Rattle.strip122.proofs.Reports.{fault_line}
use Rattle.strip122.proofs.NoteLines.{notes_as}
use Rattle.strip122.proofs.notes.note_fault.Goals as goal

pub returns-in-BadPixel : goal.returns-in-BadPixel
returns-in-BadPixel g c =
    notes_as (fault_line c.args.fault) c.note_line-in-BadPixel.ensures (rw (c.in-BadPixel.is, c.as_str-in-BadPixel.ensures.value, c.bad_pixel_line.ensures)
    (search rules))

pub returns-in-WriteFault : goal.returns-in-WriteFault
returns-in-WriteFault g c = notes_as (fault_line c.args.fault) c.note_line-in-WriteFault.ensures (rw c.in-WriteFault.is refl)
