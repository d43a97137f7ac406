use Rattle.std.proofs.Common.{refl}
use Rattle.code_book.specs.Reading.{book_in}
use Rattle.code_book.proofs.read.book_in.Goals as goal

pub returns : goal.returns
unfolding book_in
returns c = rw (
  c.table_from.ensures,
  c.table_from-2.ensures,
  c.table_from-3.ensures,
  c.table_from-4.ensures,
  c.table_from-5.ensures,
  c.table_from-6.ensures,
) refl
