-- The fault of a book that was read is one of its codes.
use Rattle.std.proofs.Common.{ℕ, zero, suc, ◌+◌, Bool, true, false, if◌then◌else◌, List, Option, None, Some, IfSome}
use Rattle.base_122.specs.declared.book.Code.{Code}
use Rattle.base_122.specs.declared.book.Book.{Book}
use Rattle.plane_defs.specs.Codes.{table}
use Rattle.code_book.specs.declared.fault.BookFault.{BookFault}
use Rattle.code_book.specs.declared.fault.BookFault.TheVariants.{BadLength, BadBits, Incomplete}
use Rattle.code_book.specs.Sound.{symbols_of}
use Rattle.code_book.specs.Tests.{IsOfCodes, named, or_else, pair_with, clash_of, clash_from, bad_length, bad_bits, table_fault, fault_from}

named_kind : (fault : ℕ → BookFault) (o : Option ℕ) (rest : Option BookFault) → ((s : ℕ) → IsOfCodes (fault s)) → IfSome rest IsOfCodes →
    IfSome (named fault o rest) IsOfCodes
named_kind fault None rest is more = more
named_kind fault (Some s) rest is more = is s

or_else_kind : (o rest : Option BookFault) → IfSome o IsOfCodes → IfSome rest IsOfCodes → IfSome (or_else o rest) IsOfCodes
or_else_kind None rest is more = more
or_else_kind (Some fault) rest is more = is

pair_kind : (table first : ℕ) (o : Option ℕ) (rest : Option BookFault) → IfSome rest IsOfCodes → IfSome (pair_with table first o rest) IsOfCodes
pair_kind table first None rest more = more
pair_kind table first (Some second) rest more = tt

clash_kind : (table : ℕ) (codes : List Code) (count start n : ℕ) → IfSome (clash_from table codes count start n) IsOfCodes
clash_kind table codes count start zero = tt
clash_kind table codes count start (suc n) = pair_kind table start (clash_of codes count start) (clash_from table codes count (start + 1) n)
    (clash_kind table codes count (start + 1) n)

room_kind : (table : ℕ) (full : Bool) → IfSome (if full then None else Some (Incomplete table)) IsOfCodes
room_kind table true = tt
room_kind table false = tt

table_kind : (table : ℕ) (codes : List Code) (count : ℕ) → IfSome (table_fault table codes count) IsOfCodes
unfolding table_fault
table_kind table codes count =
    named_kind (BadLength table) (bad_length codes count) _ (λ s. tt)
    (named_kind (BadBits table) (bad_bits codes count) _ (λ s. tt)
    (or_else_kind (clash_from table codes count 0 count) _ (clash_kind table codes count 0 count) (room_kind table _)))

pub fault_kind : (book : Book) (start n : ℕ) → IfSome (fault_from book start n) IsOfCodes
unfolding fault_from
fault_kind book start zero = tt
fault_kind book start (suc n) = or_else_kind (table_fault start (table book start) (symbols_of start)) (fault_from book (start + 1) n)
    (table_kind start (table book start) (symbols_of start)) (fault_kind book (start + 1) n)
