-- The law of a command whose input begins with a code book.
use Rattle.std.proofs.Common.{◌≡◌, ◌≤◌, ℕ, zero, suc, List, [], ◌∷◌, ◌++◌, length, refl, sym, ◌∙◌, ap, subst, arith, inl, inr, length-append, ◌⊎◌, Bool}
use Rattle.std.proofs.Common.{true, false, Option, Some, None, Ok, Err}
use Rattle.port_122.specs.Outside.{Outside, Loses}
use Rattle.port_122.proofs.Stretches.{rose_since}
use Rattle.port_122.proofs.IfKnown.{end_known}
use Rattle.base_122.specs.declared.book.Book.{Book}
use Rattle.base_122.specs.declared.wish.DecodeWish.{DecodeWish}
use Rattle.code_book.specs.declared.fault.BookFault.{BookFault}
use Rattle.code_book.specs.declared.fault.BookFault.TheVariants.{ReadFault, Short, BadMark, BadLength, BadBits, Clash, Incomplete}
use Rattle.code_book.specs.Reading.{ReadsBook, book_read}
use Rattle.strip122.specs.Behaviours.{Behaviour}
use Rattle.strip122.specs.Books.{AfterBook, LacksBook, ByBook, by_book, with_book}
use Rattle.strip122.specs.Outcomes.{Outcomes, AtStatus, book_outcomes}
use Rattle.strip122.proofs.Reports.{book_status}
use Rattle.strip122.proofs.Behaviours.{Law}

-- no fault has status 0
pub book_fault_fails : (fault : BookFault) → book_status fault ≡ 0 → ⊥
book_fault_fails ReadFault none = omega (arith, none)
book_fault_fails (Short octets) none = omega (arith, none)
book_fault_fails BadMark none = omega (arith, none)
book_fault_fails (BadLength table symbol) none = omega (arith, none)
book_fault_fails (BadBits table symbol) none = omega (arith, none)
book_fault_fails (Clash table first second) none = omega (arith, none)
book_fault_fails (Incomplete table) none = omega (arith, none)

-- ---- the octets of the book

-- what is left after octets that were taken
left_over : (a b : Option (List ℕ)) (xs less : List ℕ) → a ≡ Some xs → Loses a b less → (rest : List ℕ) × (b ≡ Some rest) × (xs ≡ less ++ rest)
left_over a None xs less if_known p = absurd (let at : Loses (Some xs) None less = rw if_known at p in at)
left_over a (Some rest) xs less if_known p = let at : xs ≡ less ++ rest = rw if_known at p in (rest, refl, at)

-- two prefixes of the same length, and what follows them
pub same_parts : (xs ys more less : List ℕ) → length xs ≡ length ys → xs ++ more ≡ ys ++ less → (xs ≡ ys) × (more ≡ less)
same_parts [] [] more less long e = (refl, e)
same_parts [] (y ∷ ys) more less long e = absurd (omega (arith, long))
same_parts (x ∷ xs) [] more less long e = absurd (omega (arith, long))
same_parts (x ∷ xs) (y ∷ ys) more less long e =
    let here : x ≡ y = cc in
    let later : xs ++ more ≡ ys ++ less = cc in
    let rest = same_parts xs ys more less (omega (arith, long)) later in
    (rw (here, rest.0) refl, rest.1)

-- the book that was read is that of the octets at the beginning of the input, and what follows them is left
read_parts : {old after : Outside} {book : Book} (octets rest : List ℕ) → ReadsBook old after (Ok book) → old.rest ≡ Some (octets ++ rest) →
    length octets ≡ 138 →
    (Ok book ≡ book_read octets) × (after.rest ≡ Some rest)
read_parts {old = old} {after = after} {book = book} octets rest read if_known long =
    let left = left_over old.rest after.rest (octets ++ rest) read.took if_known read.since.rest in
    let same = same_parts read.took octets left.0 rest (read.answer.0 ∙ sym long) (sym left.2) in
    (subst (λ xs. Ok book ≡ book_read xs) same.0 read.answer.1, left.1 ∙ ap Some same.1)

other : {old after : Outside} (octets rest : List ℕ) (book : Book) (fault : BookFault) {took : List ℕ} →
    (length took ≡ 138) × (Err fault ≡ book_read took) → (read : ReadsBook old after (Err fault)) →
    took ≡ read.took → old.rest ≡ Some (octets ++ rest) → length octets ≡ 138 → book_read octets ≡ Ok book → ⊥
other {old = old} {after = after} octets rest book fault {took = took} answer read is_took if_known long is =
    let left = left_over old.rest after.rest (octets ++ rest) read.took if_known read.since.rest in
    let same = same_parts took octets left.0 rest (answer.0 ∙ sym long) (ap (λ xs. xs ++ left.0) is_took ∙ sym left.2) in
    let e : Err fault ≡ Ok book = answer.1 ∙ ap book_read same.0 ∙ is in
    absurd cc

-- if the input begins with the octets of a book, no fault but that of a read is found
not_refused : {old after : Outside} (octets rest : List ℕ) (book : Book) (fault : BookFault) → ReadsBook old after (Err fault) →
    old.rest ≡ Some (octets ++ rest) → length octets ≡ 138 →
    book_read octets ≡ Ok book → book_status fault ≡ 3 → ⊥
not_refused {old = old} {after = after} octets rest book ReadFault read if_known long is three = omega (arith, three)
not_refused {old = old} {after = after} octets rest book (Short n) read if_known long is three =
    let all = end_known (octets ++ rest) read.since if_known read.answer.2 in
    omega (arith, ap length all, read.answer.0, read.answer.1, long, length-append octets rest)
not_refused {old = old} {after = after} octets rest book BadMark read if_known long is three =
    other octets rest book BadMark read.answer read refl if_known long is
not_refused {old = old} {after = after} octets rest book (BadLength t s) read if_known long is three =
    other octets rest book (BadLength t s) read.answer read refl if_known long is
not_refused {old = old} {after = after} octets rest book (BadBits t s) read if_known long is three =
    other octets rest book (BadBits t s) read.answer read refl if_known long is
not_refused {old = old} {after = after} octets rest book (Clash t a b) read if_known long is three =
    other octets rest book (Clash t a b) read.answer read refl if_known long is
not_refused {old = old} {after = after} octets rest book (Incomplete t) read if_known long is three =
    other octets rest book (Incomplete t) read.answer read refl if_known long is

-- ---- the law

module _ (b : Book → Behaviour) (o : Book → Outcomes) (each : (book : Book) → Law (b book) (o book)) where
  ended : (old new : Outside) (fault : BookFault) → LacksBook old new fault → AtStatus (book_outcomes o) old new (book_status fault)
  ended old new ReadFault lacks = omega (arith, lacks.read.answer.0, lacks.noted.1.faults.reads)
  ended old new (Short octets) lacks = inl (record { fault = Short octets; lacks = lacks; input = refl })
  ended old new BadMark lacks = inl (record { fault = BadMark; lacks = lacks; input = refl })
  ended old new (BadLength t s) lacks = inl (record { fault = BadLength t s; lacks = lacks; input = refl })
  ended old new (BadBits t s) lacks = inl (record { fault = BadBits t s; lacks = lacks; input = refl })
  ended old new (Clash t x y) lacks = inl (record { fault = Clash t x y; lacks = lacks; input = refl })
  ended old new (Incomplete t) lacks = inl (record { fault = Incomplete t; lacks = lacks; input = refl })

  later : (old new : Outside) (status : ℕ) (book : Book) (after : Outside) → ReadsBook old after (Ok book) → AtStatus (o book) after new status →
      AtStatus (book_outcomes o) old new status
  later old new zero book after read at = record { book = book; after = after; read = read; holds = at }
  later old new (suc zero) book after read at = record { book = book; after = after; read = read; holds = at }
  later old new (suc (suc zero)) book after read at = at
  later old new (suc (suc (suc zero))) book after read at = inr (record { book = book; after = after; read = read; holds = at })
  later old new (suc (suc (suc (suc zero)))) book after read at = rose_since read.since.faults.reads at
  later old new (suc (suc (suc (suc (suc zero))))) book after read at = rose_since read.since.faults.writes at
  later old new (suc (suc (suc (suc (suc (suc zero)))))) book after read at = record { book = book; after = after; read = read; holds = at }
  later old new (suc (suc (suc (suc (suc (suc (suc status))))))) book after read at = at

  ends : (old new : Outside) (status : ℕ) → (with_book b).performs old new status → AtStatus (book_outcomes o) old new status
  ends old new status (inl run) = subst (AtStatus (book_outcomes o) old new) (sym run.status_is) (ended old new run.fault run.lacks)
  ends old new status (inr run) = later old new status run.book run.after run.read ((each run.book).ends run.after new status run.holds)

  right : (old new : Outside) (input : List ℕ) → old.rest ≡ Some input → (with_book b).accepts input → (book_outcomes o).refuses old new → ⊥
  right old new input if_known has (inl refused) =
      not_refused has.octets has.rest has.book refused.fault refused.lacks.read (if_known ∙ ap Some has.input_is) has.long has.read refused.input
  right old new input if_known has (inr run) =
      let parts = read_parts has.octets has.rest run.read (if_known ∙ ap Some has.input_is) has.long in
      let same : run.book ≡ has.book = let e : Ok run.book ≡ Ok has.book = parts.0 ∙ has.read in cc in
      (each run.book).right run.after new has.rest parts.1 (subst (λ book. (b book).accepts has.rest) (sym same) has.holds) run.holds

  -- a book was read, so the input begins with its octets, and the rest is accepted
  accepted : (whole : Outcomes → Outside → Outside → Type 0) →
      ((book : Book) (after new : Outside) (rest : List ℕ) → after.rest ≡ Some rest → whole (o book) after new → (b book).accepts rest) →
      (old new : Outside) (input : List ℕ) → old.rest ≡ Some input → AfterBook (λ book. whole (o book)) old new → (with_book b).accepts input
  accepted whole takes old new input if_known run =
      let left = left_over old.rest run.after.rest input run.read.took if_known run.read.since.rest in
      record {
        octets = run.read.took;
        rest = left.0;
        input_is = left.2;
        long = run.read.answer.0;
        book = run.book;
        read = sym run.read.answer.1;
        holds = takes run.book run.after new left.0 left.1 run.holds;
      }

  -- a command whose input begins with a book has the law, if it has it with each book
  pub with_book_law : Law (with_book b) (book_outcomes o)
  with_book_law = record {
    ends = ends;
    right = right;
    whole = accepted (λ c. c.whole) (λ book. (each book).whole);
    part = accepted (λ c. c.part) (λ book. (each book).part);
  }

-- ---- a run with a book, or without one

-- what is so of each run with this status is so with the book that was read first
pub by_book_gives : (b : DecodeWish → Behaviour) (P : DecodeWish → Outside → Outside → Type 0) (status : ℕ) → (status ≡ 0) ⊎ (status ≡ 1) →
    ((wish : DecodeWish) (old new : Outside) → (b wish).performs old new status → P wish old new) →
    (has_book : Bool) (wish : DecodeWish) (old new : Outside) → (by_book has_book wish b).performs old new status → ByBook has_book wish P old new
by_book_gives b P status done gives false wish old new run = gives wish old new run
by_book_gives b P status done gives true wish old new (inr run) = record {
  book = run.book;
  after = run.after;
  read = run.read;
  holds =
      gives (record wish { book = run.book }) run.after new run.holds;
}
by_book_gives b P status done gives true wish old new (inl ended) = absurd (not_done ended.fault status ended.status_is done)
  where
    least : (fault : BookFault) → 3 ≤ book_status fault
    least ReadFault = omega arith
    least (Short octets) = omega arith
    least BadMark = omega arith
    least (BadLength t s) = omega arith
    least (BadBits t s) = omega arith
    least (Clash t a b) = omega arith
    least (Incomplete t) = omega arith

    not_done : (fault : BookFault) (status : ℕ) → status ≡ book_status fault → (status ≡ 0) ⊎ (status ≡ 1) → ⊥
    not_done fault status is (inl none) = omega (arith, is, none, least fault)
    not_done fault status is (inr some) = omega (arith, is, some, least fault)
