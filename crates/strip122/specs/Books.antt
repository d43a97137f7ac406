-- A command whose input begins with a code book: the book is read, and then the command is that with this book and with the input after it.
-- This project's own.
use Rattle.std.specs.Prelude.{◌≡◌, ◌⊎◌, ℕ, Bool, true, false, List, ◌++◌, length, decimal, codes, Ok, Err}
use Rattle.port_122.specs.Outside.{Outside}
use Rattle.base_122.specs.declared.book.Book.{Book}
use Rattle.base_122.specs.declared.wish.DecodeWish.{DecodeWish}
use Rattle.code_book.specs.declared.fault.BookFault.{BookFault}
use Rattle.code_book.specs.declared.fault.BookFault.TheVariants.{ReadFault, Short, BadMark, BadLength, BadBits, Clash, Incomplete}
use Rattle.code_book.specs.Reading.{ReadsBook, book_read}
use Rattle.strip122.specs.Notes.{Notes, Report, refusal, read_report}
use Rattle.strip122.specs.Behaviours.{Behaviour}

-- ---- the report on each fault of the book

-- the code of one symbol is refused
abbrev pub code_line : (table symbol : ℕ) → List ℕ
code_line table symbol = codes "strip122: book refused: code " ++ decimal symbol ++ codes " of table " ++ decimal table ++ codes "\n"

abbrev pub clash_line : (table first second : ℕ) → List ℕ
clash_line table first second =
    codes "strip122: book refused: codes " ++ decimal first ++ codes " and " ++ decimal second ++ codes " of table " ++ decimal table ++ codes " clash\n"

abbrev pub book_report : BookFault → Report
book_report ReadFault = read_report
book_report (Short octets) = refusal (codes "strip122: book short, " ++ decimal octets ++ codes " octets taken\n")
book_report BadMark = refusal (codes "strip122: book without mark\n")
book_report (BadLength table symbol) = refusal (code_line table symbol)
book_report (BadBits table symbol) = refusal (code_line table symbol)
book_report (Clash table first second) = refusal (clash_line table first second)
book_report (Incomplete table) = refusal (codes "strip122: book refused: table " ++ decimal table ++ codes " incomplete\n")

-- ---- the effect of a run

-- A book was read, which takes the first 138 octets of the input and gives nothing, and this holds of the outside after it.
pub record AfterBook (P : Book → Outside → Outside → Type 0) (old new : Outside) : Type 0 where
  pub book : Book
  pub after : Outside
  pub read : ReadsBook old after (Ok book)
  pub holds : P book after new

-- No book was read: nothing is given, and the note names the fault.
pub record LacksBook (old new : Outside) (fault : BookFault) : Type 0 where
  pub after : Outside
  pub read : ReadsBook old after (Err fault)
  pub noted : Notes after new (book_report fault).line

-- one run that ended at the book
pub record EndsAtBook (old new : Outside) (status : ℕ) : Type 0 where
  pub fault : BookFault
  pub lacks : LacksBook old new fault
  pub status_is : status ≡ (book_report fault).status

-- ---- the input that is left

-- These octets begin with those of a book, and this holds of the rest.
pub record BeginsWithBook (P : Book → List ℕ → Type 0) (input : List ℕ) : Type 0 where
  pub octets : List ℕ
  pub rest : List ℕ
  pub input_is : input ≡ octets ++ rest
  pub long : length octets ≡ 138
  pub book : Book
  pub read : book_read octets ≡ Ok book
  pub holds : P book rest

-- ---- the behaviour

-- the behaviour with the book that is read first
abbrev pub with_book : (Book → Behaviour) → Behaviour
with_book b = record {
  performs = λ old new status. EndsAtBook old new status ⊎ AfterBook (λ book after new. (b book).performs after new status) old new;
  accepts = BeginsWithBook (λ book. (b book).accepts);
}

-- what holds for a wish, whose book is the one that is read first if the input has one
abbrev pub ByBook : (has_book : Bool) → DecodeWish → (DecodeWish → Outside → Outside → Type 0) → Outside → Outside → Type 0
ByBook false wish P = P wish
ByBook true wish P = AfterBook (λ book. P (record wish { book = book }))

abbrev pub by_book : (has_book : Bool) → DecodeWish → (DecodeWish → Behaviour) → Behaviour
by_book false wish b = b wish
by_book true wish b = with_book (λ book. b (record wish { book = book }))
