use Rattle.std.proofs.Common.{◌∙◌}
use Rattle.strip122.proofs.NoteLines.{notes_as}
use Rattle.strip122.proofs.DamageParts.{none_line_begun, none_line_whole}
use Rattle.strip122.proofs.damage_notes.note_framing.Goals as goal

pub returns-in_default : goal.returns-in_default
returns-in_default g c = none_line_begun _ _ c.as_bytes.result.now c.args.framing c.as_bytes.ensures.value c.in_default.ensures

pub returns : goal.returns
returns g c =
    none_line_whole _ _ _ c.as_bytes.result.now c.args.framing c.as_bytes.ensures.value c.in-Ok.ensures
    (notes_as _ c.note_line.ensures (c.as_str.ensures.value ∙ c.end_line.ensures))
