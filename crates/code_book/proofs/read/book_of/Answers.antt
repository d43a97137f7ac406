use Rattle.std.proofs.Common.{sym, ◌∙◌}
use Rattle.code_book.proofs.BooksRead.{read_unmarked, read_sound, read_unsound}
use Rattle.code_book.proofs.read.book_of.Goals as goal

pub returns-then-not-has_mark : goal.returns-then-not-has_mark
returns-then-not-has_mark c = read_unmarked c.args.octets.now (sym c.has_mark.ensures ∙ c.if-not-has_mark.true)

pub returns-in-Ok : goal.returns-in-Ok
returns-in-Ok c =
    read_sound c.args.octets.now c.book_in-book.result (sym c.has_mark.ensures ∙ c.if-not-has_mark.false) c.book_in-book.ensures
    (sym c.in-Ok.is ∙ c.check_book.ensures.first)

pub returns-in-Err : goal.returns-in-Err
returns-in-Err c =
    read_unsound c.args.octets.now c.book_in-book.result c.in-Err.fault (sym c.has_mark.ensures ∙ c.if-not-has_mark.false) c.book_in-book.ensures
    (sym c.in-Err.is ∙ c.check_book.ensures.first)
