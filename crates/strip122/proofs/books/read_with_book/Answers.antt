use Rattle.std.proofs.Common.{inl, inr}
use Rattle.strip122.proofs.books.read_with_book.Goals as goal

pub returns-in-Ok : goal.returns-in-Ok
returns-in-Ok g c = inr (record { book = c.in-Ok.book; after = _; read = c.in-Ok.ensures.reads; holds = c.read.ensures })

pub returns-in-Err : goal.returns-in-Err
returns-in-Err g c =
    inl (record {
      fault = c.in-Err.fault;
      lacks = record { after = _; read = c.in-Err.ensures.reads; noted = c.note_book_fault.ensures };
      status_is =
          c.book_status.ensures;
    })
