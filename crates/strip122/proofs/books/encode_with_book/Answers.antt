use Rattle.std.proofs.Common.{inl, sym, ◌∙◌}
use Rattle.strip122.proofs.BookRuns.{book_fault_fails}
use Rattle.strip122.proofs.BookSettings.{range_with_book}
use Rattle.strip122.proofs.Encoded.{lacks_memory}
use Rattle.strip122.proofs.books.encode_with_book.Goals as goal

pub encode_raster-requires-clause-range : goal.encode_raster-requires-clause-range
encode_raster-requires-clause-range g c = range_with_book c.args.setting.now _ c.requires.range

pub returns-in_default-clause-runs : goal.returns-in_default-clause-runs
returns-in_default-clause-runs g c = inl (lacks_memory _ _ c.note_line.ensures)

pub invariant_of-work-in-Ok-read_book-3 : goal.invariant_of-work-in-Ok-read_book-3
invariant_of-work-in-Ok-read_book-3 g c =
    let third = c.encode_raster.new.work.strip.third in record { wide = third.wide; long = third.long; room = third.room }

pub invariant_of-work-4 : goal.invariant_of-work-4
invariant_of-work-4 g c = let third = c.in-Ok.work.strip.third in record { wide = third.wide; long = third.long; room = third.room }

pub returns-clause-closed : goal.returns-clause-closed
returns-clause-closed g c zero = absurd (book_fault_fails c.in-Err.fault (sym c.book_status.ensures ∙ zero))
