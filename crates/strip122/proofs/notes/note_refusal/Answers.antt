use Rattle.std.proofs.Common.{refl}
use Rattle.command_words.specs.Words.{texts}
use Rattle.strip122.specs.Notes.{word_line}
use Rattle.strip122.proofs.NoteLines.{notes_as}
use Rattle.strip122.proofs.notes.note_refusal.Goals as goal

pub returns-in-BadWord : goal.returns-in-BadWord
returns-in-BadWord g c = notes_as (word_line (texts c.args.words.now) c.args.fault) c.note_parts.ensures (rw (c.in-BadWord.is, c.word.ensures) refl)

pub returns-in-MissingKey : goal.returns-in-MissingKey
returns-in-MissingKey g c =
    notes_as (word_line (texts c.args.words.now) c.args.fault) c.note_parts-in-MissingKey.ensures (rw (c.in-MissingKey.is, c.field_name.ensures) refl)

pub returns-in-OutOfRange : goal.returns-in-OutOfRange
returns-in-OutOfRange g c =
    notes_as (word_line (texts c.args.words.now) c.args.fault) c.note_parts-in-OutOfRange.ensures
    (rw (c.in-OutOfRange.is, c.field_name-in-OutOfRange.ensures) refl)
