use Rattle.std.proofs.Common.{rules, refl}
use Rattle.strip122.proofs.Reports.{mux_fault_line}
use Rattle.strip122.proofs.NoteLines.{notes_as}
use Rattle.strip122.proofs.notes.note_mux_fault.Goals as goal

pub returns-in-BadCamera : goal.returns-in-BadCamera
returns-in-BadCamera g c =
    notes_as (mux_fault_line c.args.fault) c.note_line-in-BadCamera.ensures
    (rw (c.in-BadCamera.is, c.as_str-in-BadCamera.ensures.value, c.bad_camera_line.ensures) (search rules))

pub returns-in-BadPixel : goal.returns-in-BadPixel
returns-in-BadPixel g c =
    notes_as (mux_fault_line c.args.fault) c.note_line-in-BadPixel.ensures
    (rw (c.in-BadPixel.is, c.as_str-in-BadPixel.ensures.value, c.camera_pixel_line.ensures) (search rules))

pub returns-in-WriteFault : goal.returns-in-WriteFault
returns-in-WriteFault g c = notes_as (mux_fault_line c.args.fault) c.note_line-in-WriteFault.ensures (rw c.in-WriteFault.is refl)
