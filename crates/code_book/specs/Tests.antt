-- The first thing that is wrong with a book. This project's own.
use Rattle.std.specs.Prelude.{ℕ, zero, suc, ◌+◌, ◌-◌, ◌^◌, ◌&&◌, ◌||◌, ◌==◌, Bool, not, nat_le, nat_lt, if◌then◌else◌, List, Option, None, Some, Result, Ok}
use Rattle.std.specs.Prelude.{Err}
use Rattle.std.specs.List.{sum_by}
use Rattle.base_122.specs.declared.book.Code.{Code}
use Rattle.base_122.specs.declared.book.Book.{Book}
use Rattle.plane_defs.specs.Spans.{span}
use Rattle.plane_defs.specs.Codes.{code_bits, entry, is_prefix, table}
use Rattle.code_book.specs.declared.fault.BookFault.{BookFault}
use Rattle.code_book.specs.declared.fault.BookFault.TheVariants.{ReadFault, Short, BadMark, BadLength, BadBits, Clash, Incomplete}
use Rattle.code_book.specs.Sound.{symbols_of}

-- ---- one code, and two

abbrev pub has_length : Code → Bool
has_length c = nat_le 1 c.len && nat_le c.len 8

abbrev pub fits : Code → Bool
fits c = nat_lt c.bits (2 ^ c.len)

-- one of two codes is a prefix of the other
abbrev pub clashes : Code → Code → Bool
clashes a b = is_prefix (code_bits a) (code_bits b) || is_prefix (code_bits b) (code_bits a)

-- the number of strings of 8 bits that begin with a code
abbrev pub room : Code → ℕ
room c = 2 ^ (8 - c.len)

-- ---- a table

-- the first of `count` numbers from a start on that passes a test
abbrev pub first_from : (ℕ → Bool) → (start count : ℕ) → Option ℕ
first_from test start zero = None
first_from test start (suc count) = if test start then Some start else first_from test (start + 1) count

abbrev pub bad_length : List Code → (count : ℕ) → Option ℕ
bad_length codes count = first_from (λ s. not (has_length (entry codes s))) 0 count

abbrev pub bad_bits : List Code → (count : ℕ) → Option ℕ
bad_bits codes count = first_from (λ s. not (fits (entry codes s))) 0 count

-- the first later code that clashes with this one
abbrev pub clash_of : List Code → (count first : ℕ) → Option ℕ
clash_of codes count first = first_from (λ s. clashes (entry codes first) (entry codes s)) (first + 1) (count - (first + 1))

abbrev pub pair_with : (table first : ℕ) → Option ℕ → Option BookFault → Option BookFault
pair_with table first None rest = rest
pair_with table first (Some second) rest = Some (Clash table first second)

-- the least pair that clashes, of those whose first code is one of n from a start on
abbrev pub clash_from : (table : ℕ) → List Code → (count start n : ℕ) → Option BookFault
clash_from table codes count start zero = None
clash_from table codes count start (suc n) = pair_with table start (clash_of codes count start) (clash_from table codes count (start + 1) n)

abbrev pub room_of : List Code → (count : ℕ) → ℕ
room_of codes count = sum_by (λ s. room (entry codes s)) (span 0 count)

abbrev pub named : (ℕ → BookFault) → Option ℕ → Option BookFault → Option BookFault
named fault None rest = rest
named fault (Some s) rest = Some (fault s)

abbrev pub or_else : Option BookFault → Option BookFault → Option BookFault
or_else None rest = rest
or_else (Some fault) rest = Some fault

-- the first of these that is wrong with a table
unfoldable pub table_fault : (table : ℕ) → List Code → (count : ℕ) → Option BookFault
table_fault table codes count =
    named (BadLength table) (bad_length codes count)
    (named (BadBits table) (bad_bits codes count)
    (or_else (clash_from table codes count 0 count)
    (if room_of codes count == 256 then None else Some (Incomplete table))))

-- ---- a book

-- a fault of a book's codes, which were read
abbrev pub IsOfCodes : BookFault → Type 0
IsOfCodes ReadFault = ⊥
IsOfCodes (Short octets) = ⊥
IsOfCodes BadMark = ⊥
IsOfCodes fault = Unit {0}

-- the fault of the first table that is not sound, of n from a start on
unfoldable pub fault_from : Book → (start n : ℕ) → Option BookFault
fault_from book start zero = None
fault_from book start (suc n) = or_else (table_fault start (table book start) (symbols_of start)) (fault_from book (start + 1) n)

abbrev pub refusal : Option BookFault → Result (Unit {0}) BookFault
refusal None = Ok tt
refusal (Some fault) = Err fault

-- the result of a check
abbrev pub book_check : Book → Result (Unit {0}) BookFault
book_check book = refusal (fault_from book 0 6)
