use Rattle.code_book.proofs.BooksRead.{book_taken, result_sound, result_usable}
use Rattle.code_book.proofs.read.read_book.Goals as goal

pub returns-clause-reads : goal.returns-clause-reads
returns-clause-reads g c = book_taken c.in_ok-fill.ensures c.book_of.ensures

pub returns-clause-sound : goal.returns-clause-sound
returns-clause-sound g c = result_sound (book_taken c.in_ok-fill.ensures c.book_of.ensures)

pub returns-clause-usable : goal.returns-clause-usable
returns-clause-usable g c = result_usable (book_taken c.in_ok-fill.ensures c.book_of.ensures)
