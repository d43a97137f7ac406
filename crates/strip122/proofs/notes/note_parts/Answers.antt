use Rattle.std.proofs.Common.{append_assoc}
use Rattle.strip122.proofs.NoteLines.{notes_then, notes_failed, notes_all}
use Rattle.strip122.proofs.notes.note_parts.Goals as goal

pub returns-in_default-note_all : goal.returns-in_default-note_all
returns-in_default-note_all g c =
    rw (append_assoc, ← c.as_bytes.ensures.value, ← c.as_bytes-2.ensures.value)
    (notes_then _ _ _ c.as_bytes.result.now _ c.in-Ok.ensures (notes_failed _ _ c.as_bytes-2.result.now c.args.last.now c.in_default-note_all.ensures))

pub returns : goal.returns
returns g c =
    rw (append_assoc, ← c.as_bytes.ensures.value, ← c.as_bytes-2.ensures.value, ← c.as_bytes-3.ensures.value)
    (notes_then _ _ _ c.as_bytes.result.now _ c.in-Ok.ensures
    (notes_then _ _ _ c.as_bytes-2.result.now _ c.in-Ok-note_all.ensures (notes_all _ _ c.as_bytes-3.result.now c.note_all-3.result c.note_all-3.ensures)))
