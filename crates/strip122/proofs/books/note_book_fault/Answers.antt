use Rattle.std.proofs.Common.{rules, refl}
use Rattle.strip122.proofs.Reports.{book_line}
use Rattle.strip122.proofs.NoteLines.{notes_as}
use Rattle.strip122.proofs.books.note_book_fault.Goals as goal

pub returns-in-Clash : goal.returns-in-Clash
returns-in-Clash g c = notes_as (book_line c.args.fault) c.note_line-in-Clash.ensures
    (rw (c.in-Clash.is, c.as_str-in-Clash.ensures.value, c.clash_line.ensures) (search rules))

pub returns-in-BadLength : goal.returns-in-BadLength
returns-in-BadLength g c = notes_as (book_line c.args.fault) c.note_line-in-BadLength.ensures
    (rw (c.in-BadLength.is, c.as_str-in-BadLength.ensures.value, c.code_line.ensures) (search rules))

pub returns-in-BadBits : goal.returns-in-BadBits
returns-in-BadBits g c = notes_as (book_line c.args.fault) c.note_line-in-BadBits.ensures
    (rw (c.in-BadBits.is, c.as_str-in-BadBits.ensures.value, c.code_line-in-BadBits.ensures) (search rules))

pub returns-in-Short : goal.returns-in-Short
returns-in-Short g c = notes_as (book_line c.args.fault) c.note_line-in-Short.ensures
    (rw (c.in-Short.is, c.as_str.ensures.value, c.short_line.ensures) (search rules))

pub returns-in-BadMark : goal.returns-in-BadMark
returns-in-BadMark g c = notes_as (book_line c.args.fault) c.note_line-in-BadMark.ensures (rw c.in-BadMark.is refl)
