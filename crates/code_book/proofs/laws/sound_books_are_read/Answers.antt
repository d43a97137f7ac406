use Rattle.code_book.proofs.BooksRead.{sound_read}
use Rattle.code_book.proofs.laws.sound_books_are_read.Goals as goal

pub returns : goal.returns
returns c = sound_read
