-- A book that was read whole, and which books are read.
use Rattle.std.proofs.Common.{◌≡◌, ◌<◌, ℕ, Bool, true, false, List, [], length, refl, sym, ap, ◌∙◌, subst, arith, Option, None, Some, IfSome, IfOk, IfErr}
use Rattle.std.proofs.Common.{IsTrue, Result, Ok, Err, if◌then◌else◌, take_all}
use Rattle.std.proofs.lemmas.Bool.Decides.{nat_tests}
use Rattle.port_122.specs.Outside.{Outside, Exchange}
use Rattle.base_122.specs.declared.book.Book.{Book}
use Rattle.plane_defs.specs.Codes.{is_book_sound}
use Rattle.code_book.specs.declared.fault.BookFault.{BookFault}
use Rattle.code_book.specs.declared.fault.BookFault.TheVariants.{ReadFault, Short, BadMark, BadLength, BadBits, Clash, Incomplete}
use Rattle.code_book.specs.Tests.{IsOfCodes, fault_from, refusal, book_check}
use Rattle.code_book.specs.Filling.{FilledTo}
use Rattle.code_book.specs.Sound.{IsSound}
use Rattle.code_book.specs.Reading.{book_in, book_or, book_read, has_mark, BookAnswers, ReadsBook, SoundBooksAreRead}
use Rattle.code_book.proofs.CodeFaults.{fault_kind}
use Rattle.code_book.proofs.Checks.{book_sound, sound_book, book_usable}

-- why octets that were all taken are no book
abbrev IsOfOctets : BookFault → Type 0
IsOfOctets ReadFault = ⊥
IsOfOctets (Short octets) = ⊥
IsOfOctets fault = Unit {0}

of_codes : (fault : BookFault) → IsOfCodes fault → IsOfOctets fault
of_codes ReadFault is = is
of_codes (Short octets) is = is
of_codes BadMark is = tt
of_codes (BadLength table symbol) is = tt
of_codes (BadBits table symbol) is = tt
of_codes (Clash table first second) is = tt
of_codes (Incomplete table) is = tt

or_kind : (book : Book) (o : Option BookFault) → IfSome o IsOfCodes → IfErr (book_or book o) IsOfOctets
or_kind book None is = tt
or_kind book (Some fault) is = of_codes fault is

mark_kind : (book : Book) (mark : Bool) → IfErr (if mark then book_or book (fault_from book 0 6) else Err BadMark) IsOfOctets
mark_kind book true = or_kind book (fault_from book 0 6) (fault_kind book 0 6)
mark_kind book false = tt

read_kind : (octets : List ℕ) → IfErr (book_read octets) IsOfOctets
unfolding book_read
read_kind octets = mark_kind (book_in octets) (has_mark octets)

answers : (old new : Outside) (took : List ℕ) (result : Result Book BookFault) → IfErr result IsOfOctets → (length took ≡ 138) × (result ≡ book_read took) →
    BookAnswers old new took result
answers old new took (Ok book) kind is = is
answers old new took (Err ReadFault) kind is = absurd kind
answers old new took (Err (Short octets)) kind is = absurd kind
answers old new took (Err BadMark) kind is = is
answers old new took (Err (BadLength table symbol)) kind is = is
answers old new took (Err (BadBits table symbol)) kind is = is
answers old new took (Err (Clash table first second)) kind is = is
answers old new took (Err (Incomplete table)) kind is = is

pub book_taken : {old new : Outside} {octets : List ℕ} {result : Result Book BookFault} → FilledTo old new octets 138 → result ≡ book_read octets →
    ReadsBook old new result
book_taken {old = old} {new = new} {octets = octets} {result = result} p is = record {
  took = octets;
  since = subst (λ took. Exchange old new took [] [] (λ i j. i < 138)) (take_all 138 octets (omega (arith, p.room))) p.since;
  answer = answers old new octets result (rw is (read_kind octets)) (p.room, is);
}

-- ---- what octets are read as

pub read_unmarked : (octets : List ℕ) → has_mark octets ≡ false → Err BadMark ≡ book_read octets
unfolding book_read
read_unmarked octets none = rw none refl

-- what a check of the codes answers is what the octets are read as
read_marked : (octets : List ℕ) (book : Book) → has_mark octets ≡ true → book ≡ book_in octets → book_or book (fault_from book 0 6) ≡ book_read octets
unfolding book_read
read_marked octets book mark is = rw (mark, is) refl

sound_or : (book : Book) (o : Option BookFault) → Ok tt ≡ refusal o → Ok book ≡ book_or book o
sound_or book o e = grind (arith, nat_tests)

unsound_or : (book : Book) (o : Option BookFault) (fault : BookFault) → Err fault ≡ refusal o → Err fault ≡ book_or book o
unsound_or book o fault e = grind (arith, nat_tests)

pub read_sound : (octets : List ℕ) (book : Book) → has_mark octets ≡ true → book ≡ book_in octets → Ok tt ≡ book_check book → Ok book ≡ book_read octets
read_sound octets book mark is e = sound_or book (fault_from book 0 6) e ∙ read_marked octets book mark is

pub read_unsound : (octets : List ℕ) (book : Book) (fault : BookFault) → has_mark octets ≡ true → book ≡ book_in octets → Err fault ≡ book_check book →
    Err fault ≡ book_read octets
read_unsound octets book fault mark is e = unsound_or book (fault_from book 0 6) fault e ∙ read_marked octets book mark is

-- ---- exactly the sound books are read

or_sound : (book back : Book) (o : Option BookFault) → book_or back o ≡ Ok book → (book ≡ back) × (o ≡ None)
or_sound book back None e = let same : book ≡ back = cc in (same, refl)
or_sound book back (Some fault) e = absurd cc

-- octets that are read as a book have the mark, and no table of their codes has a fault
parts_read : (octets : List ℕ) (book : Book) → book_read octets ≡ Ok book → (has_mark octets ≡ true) × (book ≡ book_in octets)
    × (fault_from (book_in octets) 0 6 ≡ None)
unfolding book_read
parts_read octets book e = by_mark (has_mark octets) refl e
  where
    by_mark : (b : Bool) → has_mark octets ≡ b → (if b then book_or (book_in octets) (fault_from (book_in octets) 0 6) else Err BadMark) ≡ Ok book →
        (has_mark octets ≡ true) × (book ≡ book_in octets) × (fault_from (book_in octets) 0 6 ≡ None)
    by_mark true f e = let parts = or_sound book (book_in octets) (fault_from (book_in octets) 0 6) e in (f, parts.0, parts.1)
    by_mark false f e = absurd cc

faultless : (octets : List ℕ) (book : Book) → book_read octets ≡ Ok book → fault_from book 0 6 ≡ None
faultless octets book e = let parts = parts_read octets book e in ap (λ b. fault_from b 0 6) parts.1 ∙ parts.2

pub sound_read : SoundBooksAreRead
sound_read octets book = (
  (λ e. let parts = parts_read octets book e in record { mark = parts.0; codes = parts.1; sound = book_sound book (faultless octets book e) }),
  (λ is. sym (read_sound octets book is.mark is.codes (ap refusal (sym (sound_book book is.sound))))),
)

-- what a reader returns

pub result_sound : {old new : Outside} {result : Result Book BookFault} → ReadsBook old new result → IfOk result IsSound
result_sound {result = Ok book} p = book_sound book (faultless p.took book (sym p.answer.1))
result_sound {result = Err fault} p = tt

pub result_usable : {old new : Outside} {result : Result Book BookFault} → ReadsBook old new result → IfOk result (λ book. IsTrue (is_book_sound book))
result_usable {result = Ok book} p = book_usable book (faultless p.took book (sym p.answer.1))
result_usable {result = Err fault} p = tt
