-- How a book is written in octets, and how a reader of one ends. (This project's own.)
use Rattle.std.specs.Prelude.{◌≡◌, ◌<◌, ◌↔◌, ℕ, ◌+◌, ◌*◌, ◌&&◌, ◌==◌, Bool, true, nat_lt, if◌then◌else◌, List, [], length, map, Option, None, Some, Result}
use Rattle.std.specs.Prelude.{Ok, Err}
use Rattle.std.specs.List.{sum_by, range_with_len}
use lib.ListN.{get_or}
use Rattle.port_122.specs.Outside.{Outside, Exchange, AtEnd, Rose}
use Rattle.base_122.specs.declared.book.Code.{Code}
use Rattle.base_122.specs.declared.book.Book.{Book}
use Rattle.base_122.specs.Profile.{no_code}
use Rattle.code_book.specs.declared.fault.BookFault.{BookFault}
use Rattle.code_book.specs.declared.fault.BookFault.TheVariants.{ReadFault, Short, BadMark}
use Rattle.code_book.specs.Sound.{IsSound, symbols_of}
use Rattle.code_book.specs.Tests.{fault_from}

-- ---- the octets of a book

-- the two octets of the mark are the first ones
abbrev pub has_mark : List ℕ → Bool
has_mark octets = get_or octets 0 0 == 0x12 && get_or octets 1 0 == 0x2B

-- the length of a code and its bits, in two octets
abbrev pub code_in : List ℕ → (place : ℕ) → Code
code_in octets place = record { bits = get_or octets (place + 1) 0; len = get_or octets place 0 }

-- a table of so many codes, whose octets begin at this place
unfoldable pub table_from : List ℕ → (start count : ℕ) → List Code
table_from octets start count = map (λ s. if nat_lt s count then code_in octets (start + 2 * s) else no_code) (range_with_len 0 16)

-- the place of a table's octets, after the mark and the codes of the tables before it
abbrev pub table_start : (i : ℕ) → ℕ
table_start i = 2 + 2 * sum_by symbols_of (range_with_len 0 i)

unfoldable pub book_in : List ℕ → Book
book_in octets = record { codes = map (λ i. table_from octets (table_start i) (symbols_of i)) (range_with_len 0 6) }

-- a book, or the first thing that is wrong with it
abbrev pub book_or : Book → Option BookFault → Result Book BookFault
book_or book None = Ok book
book_or book (Some fault) = Err fault

-- what the 138 octets of a book are read as
unfoldable pub book_read : List ℕ → Result Book BookFault
book_read octets = if has_mark octets then book_or (book_in octets) (fault_from (book_in octets) 0 6) else Err BadMark

-- these octets begin with the mark, and the codes after it are those of this book, which is sound
pub record IsBookOf (octets : List ℕ) (book : Book) : Type 0 where
  pub mark : has_mark octets ≡ true
  pub codes : book ≡ book_in octets
  pub sound : IsSound book

-- exactly the octets of a sound book are read as one
abbrev pub SoundBooksAreRead : Type 0
SoundBooksAreRead = (octets : List ℕ) (book : Book) → (book_read octets ≡ Ok book) ↔ IsBookOf octets book

-- ---- the reader

-- Why it was answered so. The answers exclude each other by the octets taken, except for faults of the port.
abbrev pub BookAnswers : (old new : Outside) → (took : List ℕ) → Result Book BookFault → Type 0
BookAnswers old new took (Err ReadFault) = Rose old.read_faults new.read_faults × (length took < 138)
BookAnswers old new took (Err (Short octets)) = (octets ≡ length took) × (octets < 138) × AtEnd new
BookAnswers old new took result = (length took ≡ 138) × (result ≡ book_read took)

-- One run over a port: what it took, and why it ended so. It asks only while octets of the book are missing.
pub record ReadsBook (old new : Outside) (result : Result Book BookFault) : Type 0 where
  pub took : List ℕ
  pub since : Exchange old new took [] [] (λ i j. i < 138)
  pub answer : BookAnswers old new took result
