use Rattle.std.proofs.Common.{◌∙◌}
use Rattle.strip122.specs.DamageNotes.{damaged}
use Rattle.strip122.proofs.NoteLines.{notes_as}
use Rattle.strip122.proofs.DamageParts.{line_begun, line_cut, line_whole}
use Rattle.strip122.proofs.damage_notes.note_damage.Goals as goal

pub returns-in_default : goal.returns-in_default
returns-in_default g c = line_begun _ _ c.as_bytes.result.now (damaged c.args.damage.now) c.args.known c.args.framing c.as_bytes.ensures.value
    c.in_default.ensures

pub returns-in_default-note_ranges : goal.returns-in_default-note_ranges
returns-in_default-note_ranges g c =
    line_cut _ _ _ c.as_bytes.result.now (damaged c.args.damage.now) c.args.known c.args.framing c.as_bytes.ensures.value c.in-Ok.ensures
    c.in_default-note_ranges.ensures

pub returns : goal.returns
returns g c =
    line_whole _ _ _ _ c.as_bytes.result.now (damaged c.args.damage.now) c.args.known c.args.framing c.as_bytes.ensures.value c.in-Ok.ensures
    c.in-Ok-note_ranges.ensures
    (notes_as _ c.note_line.ensures (c.as_str.ensures.value ∙ c.end_line.ensures))
