-- Nothing is wrong with a table, or a book, exactly if it is sound.
use Rattle.std.proofs.Common.{◌≡◌, inl, inr, ◌≤◌, ◌<◌, ◌+◌, ◌-◌, ◌^◌, ℕ, zero, suc, List, [], ◌∷◌, refl, sym, ap, ◌∙◌, arith, Bool, true, false, not, ◌==◌}
use Rattle.std.proofs.Common.{if◌then◌else◌, is_some, slice_index_or, Option, Some, None}
use Rattle.std.proofs.lemmas.Bool.{cases_lt, false≢true}
use Rattle.std.proofs.lemmas.Bool.Decides.{nat_tests}
use Rattle.base_122.specs.declared.book.Code.{Code}
use Rattle.base_122.specs.declared.book.Book.{Book}
use Rattle.plane_defs.specs.Codes.{entry, table, is_table_sound, is_book_sound}
use Rattle.code_book.specs.declared.fault.BookFault.{BookFault}
use Rattle.code_book.specs.declared.fault.BookFault.TheVariants.{BadLength, BadBits, Incomplete}
use Rattle.code_book.specs.Sound.{symbols_of, IsCode, AreCodes, IsTableSound, IsSound}
use Rattle.code_book.specs.Tests.{has_length, fits, clashes, first_from, bad_length, bad_bits, clash_of, pair_with, clash_from, room_of, named, or_else}
use Rattle.code_book.specs.Tests.{table_fault, fault_from}
use Rattle.code_book.proofs.Rooms.{AreApart, sound_from, usable_from, tests_from}

-- ---- no number passes

none_each : (test : ℕ → Bool) (start n i : ℕ) → first_from test start n ≡ None → start ≤ i → i < start + n → test i ≡ false
none_each test start zero i e low high = absurd (omega (arith, low, high))
none_each test start (suc n) i e low high = by_test (test start) refl e (λ f later. none_each test (start + 1) n i f later (omega (arith, high)))
  where
    by_test : (b : Bool) → test start ≡ b → (if b then Some start else first_from test (start + 1) n) ≡ None →
        (first_from test (start + 1) n ≡ None → start + 1 ≤ i → test i ≡ false) → test i ≡ false
    by_test true f e rest = absurd (let no : Some start ≡ None = e in cc)
    by_test false f e rest = elim (cases_lt start i) [
      | inl later ↦ rest e (omega (arith, later))
      | inr first ↦ let same : i ≡ start = omega (arith, first, low) in ap test same ∙ f
    ]

each_none : (test : ℕ → Bool) (start n : ℕ) → ((i : ℕ) → start ≤ i → i < start + n → test i ≡ false) → first_from test start n ≡ None
each_none test start zero each = refl
each_none test start (suc n) each =
    let here = each start (omega arith) (omega arith) in
    rw here (each_none test (start + 1) n (λ i low high. each i (omega (arith, low)) (omega (arith, high))))

-- ---- the parts of a table's tests

named_none : (fault : ℕ → BookFault) (o : Option ℕ) (rest : Option BookFault) → named fault o rest ≡ None → (o ≡ None) × (rest ≡ None)
named_none fault None rest e = (refl, e)
named_none fault (Some s) rest e = absurd (let no : Some (fault s) ≡ None = e in cc)

or_else_none : (o rest : Option BookFault) → or_else o rest ≡ None → (o ≡ None) × (rest ≡ None)
or_else_none None rest e = (refl, e)
or_else_none (Some fault) rest e = absurd (let no : Some fault ≡ None = e in cc)

room_full : (n : ℕ) (fault : BookFault) → (if n == 256 then None else Some fault) ≡ None → n ≡ 256
room_full n fault e = grind (arith, nat_tests)

not_false : (b : Bool) → not b ≡ false → b ≡ true
not_false b e = grind (arith, nat_tests, false≢true)

code_from : (c : Code) → has_length c ≡ true → fits c ≡ true → IsCode c
code_from c long fit = record {
  some = (let e : 1 ≤ c.len = grind (arith, nat_tests) in e);
  few = (let e : c.len ≤ 8 = grind (arith, nat_tests) in e);
  fits = (let e : c.bits < 2 ^ c.len = grind (arith, nat_tests) in e);
}

has_length_so : (c : Code) → IsCode c → has_length c ≡ true
has_length_so c is = let some = is.some in let few = is.few in grind (arith, nat_tests)

fits_so : (c : Code) → IsCode c → fits c ≡ true
fits_so c is = let fit = is.fits in grind (arith, nat_tests)

-- what the tests say if none fails
pub record Passes (table : List Code) (count : ℕ) : Type 0 where
  pub codes_are : AreCodes table count
  pub apart : AreApart table count
  pub full : room_of table count ≡ 256

module _ (t : ℕ) (codes : List Code) (count : ℕ) where
  pub codes_from : bad_length codes count ≡ None → bad_bits codes count ≡ None → AreCodes codes count
  codes_from long fit = record {
    each = λ s lt.
        code_from (entry codes s)
        (not_false (has_length (entry codes s)) (none_each (λ s. not (has_length (entry codes s))) 0 count s long (omega arith) (omega (arith, lt))))
        (not_false (fits (entry codes s)) (none_each (λ s. not (fits (entry codes s))) 0 count s fit (omega arith) (omega (arith, lt))));
  }

  none_clash : (start n i : ℕ) → clash_from t codes count start n ≡ None → start ≤ i → i < start + n → clash_of codes count i ≡ None
  none_clash start zero i e low high = absurd (omega (arith, low, high))
  none_clash start (suc n) i e low high = by_pair (clash_of codes count start) refl e (λ f later. none_clash (start + 1) n i f later (omega (arith, high)))
    where
      by_pair : (o : Option ℕ) → clash_of codes count start ≡ o → pair_with t start o (clash_from t codes count (start + 1) n) ≡ None →
          (clash_from t codes count (start + 1) n ≡ None → start + 1 ≤ i → clash_of codes count i ≡ None) → clash_of codes count i ≡ None
      by_pair (Some r) f e rest = absurd cc
      by_pair None f e rest = elim (cases_lt start i) [
        | inl later ↦ rest e (omega (arith, later))
        | inr first ↦ let same : i ≡ start = omega (arith, first, low) in ap (clash_of codes count) same ∙ f
      ]

  clash_none : (start n : ℕ) → ((i : ℕ) → start ≤ i → i < start + n → clash_of codes count i ≡ None) → clash_from t codes count start n ≡ None
  clash_none start zero each = refl
  clash_none start (suc n) each =
      ap (λ o. pair_with t start o (clash_from t codes count (start + 1) n)) (each start (omega arith) (omega arith))
      ∙ clash_none (start + 1) n (λ i low high. each i (omega (arith, low)) (omega (arith, high)))

  apart_from : clash_from t codes count 0 count ≡ None → AreApart codes count
  apart_from none s r less lt =
      none_each (λ k. clashes (entry codes s) (entry codes k)) (s + 1) (count - (s + 1)) r
      (none_clash 0 count s none (omega arith) (omega (arith, less, lt))) (omega (arith, less)) (omega (arith, less, lt))

  apart_none : AreApart codes count → clash_from t codes count 0 count ≡ None
  apart_none apart = grind (arith, nat_tests, clash_none, each_none)

  passes : table_fault t codes count ≡ None → Passes codes count
  unfolding table_fault
  passes e =
      let long = named_none (BadLength t) (bad_length codes count)
      (named (BadBits t) (bad_bits codes count) (or_else (clash_from t codes count 0 count)
      (if room_of codes count == 256 then None else Some (Incomplete t)))) e in
      let fit = named_none (BadBits t) (bad_bits codes count)
      (or_else (clash_from t codes count 0 count) (if room_of codes count == 256 then None else Some (Incomplete t))) long.1 in
      let clash = or_else_none (clash_from t codes count 0 count) (if room_of codes count == 256 then None else Some (Incomplete t)) fit.1 in
      record {
        codes_are = codes_from long.0 fit.0;
        apart = apart_from clash.0;
        full = room_full (room_of codes count) (Incomplete t) clash.1;
      }

  pub table_sound : table_fault t codes count ≡ None → IsTableSound codes count
  table_sound e = let p = passes e in sound_from codes count p.codes_are p.apart p.full

  pub table_usable : table_fault t codes count ≡ None → is_table_sound codes count ≡ true
  table_usable e = let p = passes e in usable_from codes count p.codes_are p.apart p.full

  pub no_fault : IsTableSound codes count → table_fault t codes count ≡ None
  unfolding table_fault
  no_fault sound = grind (arith, nat_tests, tests_from, each_none, has_length_so, fits_so, apart_none)

-- ---- a book

tables_each : (book : Book) (start n i : ℕ) → fault_from book start n ≡ None → start ≤ i → i < start + n → table_fault i (table book i) (symbols_of i) ≡ None
unfolding fault_from
tables_each book start zero i e low high = absurd (omega (arith, low, high))
tables_each book start (suc n) i e low high =
    let parts = or_else_none (table_fault start (table book start) (symbols_of start)) (fault_from book (start + 1) n) e in
    elim (cases_lt start i) [
      | inl later ↦ tables_each book (start + 1) n i parts.1 (omega (arith, later)) (omega (arith, high))
      | inr first ↦ let same : i ≡ start = omega (arith, first, low) in ap (λ k. table_fault k (table book k) (symbols_of k)) same ∙ parts.0
    ]

each_tables : (book : Book) (start n : ℕ) → ((i : ℕ) → start ≤ i → i < start + n → table_fault i (table book i) (symbols_of i) ≡ None) →
    fault_from book start n ≡ None
unfolding fault_from
each_tables book start zero each = refl
each_tables book start (suc n) each =
    ap (λ o. or_else o (fault_from book (start + 1) n)) (each start (omega arith) (omega arith))
    ∙ each_tables book (start + 1) n (λ i low high. each i (omega (arith, low)) (omega (arith, high)))

pub book_sound : (book : Book) → fault_from book 0 6 ≡ None → IsSound book
book_sound book e = record { tables = λ i lt. table_sound i (table book i) (symbols_of i) (tables_each book 0 6 i e (omega arith) (omega (arith, lt))) }

pub sound_book : (book : Book) → IsSound book → fault_from book 0 6 ≡ None
sound_book book sound = each_tables book 0 6 (λ i low high. no_fault i (table book i) (symbols_of i) (sound.tables i (omega (arith, high))))

pub book_usable : (book : Book) → fault_from book 0 6 ≡ None → is_book_sound book ≡ true
book_usable book e =
    let at : (i : ℕ) → i < 6 → is_table_sound (table book i) (symbols_of i) ≡ true =
    λ i lt. table_usable i (table book i) (symbols_of i) (tables_each book 0 6 i e (omega arith) (omega (arith, lt))) in
    rw (at 0 (omega arith), at 1 (omega arith), at 2 (omega arith), at 3 (omega arith), at 4 (omega arith), at 5 (omega arith)) refl

-- ---- the tests of a table, one after another

module _ (t : ℕ) (codes : List Code) (count : ℕ) where
  abbrev after_clash : Option BookFault
  after_clash = if room_of codes count == 256 then None else Some (Incomplete t)

  abbrev after_bits : Option BookFault
  after_bits = or_else (clash_from t codes count 0 count) after_clash

  abbrev after_length : Option BookFault
  after_length = named (BadBits t) (bad_bits codes count) after_bits

  pub fault_length : (s : ℕ) → bad_length codes count ≡ Some s → table_fault t codes count ≡ Some (BadLength t s)
  unfolding table_fault
  fault_length s long = ap (λ o. named (BadLength t) o after_length) long

  pub fault_bits : (s : ℕ) → bad_length codes count ≡ None → bad_bits codes count ≡ Some s → table_fault t codes count ≡ Some (BadBits t s)
  unfolding table_fault
  fault_bits s long fit = ap (λ o. named (BadLength t) o after_length) long ∙ ap (λ o. named (BadBits t) o after_bits) fit

  pub fault_clash : (fault : BookFault) → bad_length codes count ≡ None → bad_bits codes count ≡ None → clash_from t codes count 0 count ≡ Some fault →
      table_fault t codes count ≡ Some fault
  unfolding table_fault
  fault_clash fault long fit clash = ap (λ o. named (BadLength t) o after_length) long ∙ ap (λ o. named (BadBits t) o after_bits) fit
      ∙ ap (λ o. or_else o after_clash) clash

  pub fault_room : bad_length codes count ≡ None → bad_bits codes count ≡ None → clash_from t codes count 0 count ≡ None →
      (room_of codes count == 256) ≡ false →
      table_fault t codes count ≡ Some (Incomplete t)
  unfolding table_fault
  fault_room long fit clash room = grind (arith, nat_tests)

  pub fault_none : bad_length codes count ≡ None → bad_bits codes count ≡ None → clash_from t codes count 0 count ≡ None → (room_of codes count == 256) ≡ true →
      table_fault t codes count ≡ None
  unfolding table_fault
  fault_none long fit clash room = grind (arith, nat_tests)

  pub lengths_from : bad_length codes count ≡ None → (s : ℕ) → s < count → (entry codes s).len ≤ 8
  lengths_from long s lt =
      let e : has_length (entry codes s) ≡ true = not_false (has_length (entry codes s)) (none_each (λ s. not (has_length (entry codes s))) 0 count s long
      (omega arith) (omega (arith, lt))) in
      grind (arith, nat_tests)

-- ---- tables, one after another

pub symbols_at : (i : ℕ) → i < 6 → slice_index_or (4 ∷ 8 ∷ 8 ∷ 16 ∷ 16 ∷ 16 ∷ []) i 0 ≡ symbols_of i
symbols_at i lt = grind (arith, nat_tests)

or_else_some : (o rest : Option BookFault) → is_some o ≡ true → or_else o rest ≡ o
or_else_some o rest e = grind (arith, nat_tests, false≢true)

or_else_past : (o rest : Option BookFault) → is_some o ≡ false → or_else o rest ≡ rest
or_else_past o rest e = grind (arith, nat_tests, false≢true)

fault_step : (book : Book) (i n m : ℕ) → n ≡ suc m → fault_from book i n ≡ or_else (table_fault i (table book i) (symbols_of i)) (fault_from book (i + 1) m)
unfolding fault_from
fault_step book i n m e = ap (fault_from book i) e

pub fault_found : (book : Book) (whole result : Option BookFault) (i : ℕ) → whole ≡ fault_from book i (6 - i) → i < 6 →
    result ≡ table_fault i (table book i) (symbols_of i) → is_some result ≡ true → result ≡ whole
fault_found book whole result i so_far lt is some =
    let rest = fault_from book (i + 1) (6 - (i + 1)) in
    sym (so_far ∙ fault_step book i (6 - i) (6 - (i + 1)) (omega (arith, lt)) ∙ ap (λ o. or_else o rest) (sym is) ∙ or_else_some result rest some)

pub fault_past : (book : Book) (whole result : Option BookFault) (i : ℕ) → whole ≡ fault_from book i (6 - i) → i < 6 →
    result ≡ table_fault i (table book i) (symbols_of i) → is_some result ≡ false →
    whole ≡ fault_from book (i + 1) (6 - (i + 1))
fault_past book whole result i so_far lt is none =
    let rest = fault_from book (i + 1) (6 - (i + 1)) in
    so_far ∙ fault_step book i (6 - i) (6 - (i + 1)) (omega (arith, lt)) ∙ ap (λ o. or_else o rest) (sym is) ∙ or_else_past result rest none

pub fault_nowhere : (book : Book) (whole : Option BookFault) (i : ℕ) → whole ≡ fault_from book i (6 - i) → 6 ≤ i → whole ≡ None
unfolding fault_from
fault_nowhere book whole i so_far le = let e : 6 - i ≡ 0 = omega (arith, le) in so_far ∙ ap (fault_from book i) e
