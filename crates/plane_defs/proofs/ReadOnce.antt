-- The codes of a sound table are distinguished by the next bits.
use Rattle.std.proofs.Common.{◌≡◌, ℕ, zero, suc, ◌+◌, ◌^◌, ◌<◌, ◌≤◌, ◌⊎◌, inl, inr, Bool, true, false, cond, List, [], ◌∷◌, ◌++◌, length, take, get_or}
use Rattle.std.proofs.Common.{refl, sym, ap, ◌∙◌, arith, add-one, zero-add, append_assoc, count_by}
use Rattle.std.proofs.lemmas.List.{append_cancel_left, length-append, length-take-le}
use Rattle.std.proofs.lemmas.List.Sums.{sum_by-append}
use Rattle.std.proofs.lemmas.Bool.Decides.{nat_tests}
use Rattle.item_defs.specs.Bits.{bits_of, copies, value_of}
use Rattle.item_defs.proofs.BitLists.{length-copies}
use Rattle.item_defs.proofs.NumberBits.{length-bits_of, bits_of-value_of, value_below}
use Rattle.item_defs.specs.Items.{coded, IsSaid}
use Rattle.item_defs.specs.Readings.{IsSound}
use Rattle.base_122.specs.declared.book.Code.{Code}
use Rattle.base_122.specs.declared.book.Book.{Book}
use Rattle.plane_defs.specs.Spans.{span}
use Rattle.plane_defs.specs.Codes.{entry, table, table_place, is_table_sound, is_book_sound, code_at, codes_of, code_bits, is_prefix}
use Rattle.plane_defs.proofs.SpanLists.{span-suc, get_or-map-span, length-map-span}
use Rattle.plane_defs.proofs.Tables.{table_len, table_begins, sound_table}

is_prefix_first : (xs ys : List Bool) (n : ℕ) → length xs ≤ n → is_prefix xs (take n (xs ++ ys)) ≡ true
is_prefix_first [] ys n h = refl
is_prefix_first (x ∷ xs) ys zero h = absurd (omega arith)
is_prefix_first (true ∷ xs) ys (suc n) h = is_prefix_first xs ys n (omega arith)
is_prefix_first (false ∷ xs) ys (suc n) h = is_prefix_first xs ys n (omega arith)

count_last : (p : ℕ → Bool) (count : ℕ) → count_by p (span 0 (count + 1)) ≡ count_by p (span 0 count) + cond (p count) 1 0
count_last p count = grind (arith, nat_tests, zero-add, span-suc, sum_by-append)

one_if : (b : Bool) → b ≡ true → cond {A = ℕ} b 1 0 ≡ 1
one_if b h = rw h refl

none_if : (b : Bool) → b ≡ false → cond {A = ℕ} b 1 0 ≡ 0
none_if b h = rw h refl

pub below_or_at : (k n : ℕ) → k < suc n → (k < n) ⊎ (k ≡ n)
below_or_at k n h = grind arith

-- a test that passes at one place, and at two
pub count_one : (p : ℕ → Bool) (count m : ℕ) → m < count → p m ≡ true → 1 ≤ count_by p (span 0 count)
count_one p zero m below here = absurd (omega arith)
count_one p (suc count) m below here =
    let last : count_by p (span 0 (suc count)) ≡ count_by p (span 0 count) + cond (p count) 1 0 = ap (λ n. count_by p (span 0 n)) (sym (add-one count))
    ∙ count_last p count in
    elim (below_or_at m count below) [
      | inl lt ↦ omega (arith, count_one p count m lt here)
      | inr e ↦ let one : cond (p count) 1 0 ≡ 1 = one_if (p count) (ap p (sym e) ∙ here) in omega (arith, one)
    ]

count_two : (p : ℕ → Bool) (count m n : ℕ) → m < n → n < count → p m ≡ true → p n ≡ true → 2 ≤ count_by p (span 0 count)
count_two p zero m n apart below first second = absurd (omega arith)
count_two p (suc count) m n apart below first second =
    let last : count_by p (span 0 (suc count)) ≡ count_by p (span 0 count) + cond (p count) 1 0 = ap (λ n. count_by p (span 0 n)) (sym (add-one count))
    ∙ count_last p count in
    elim (below_or_at n count below) [
      | inl lt ↦ omega (arith, count_two p count m n apart lt first second)
      | inr e ↦
          let one : cond (p count) 1 0 ≡ 1 = one_if (p count) (ap p (sym e) ∙ second) in
          omega (arith, one, count_one p count m (omega arith) first)
    ]

-- if some are counted, there is one
pub counted_somewhere : (p : ℕ → Bool) (count : ℕ) → 1 ≤ count_by p (span 0 count) → (m : ℕ) × (m < count) × (p m ≡ true)
unfolding span
counted_somewhere p zero h = absurd (omega arith)
counted_somewhere p (suc count) h =
    by_last (p count) refl (λ l. let r = counted_somewhere p count l in (r.0, omega (arith, r.1), r.2))
  where
    by_last : (b : Bool) → p count ≡ b → (1 ≤ count_by p (span 0 count) → (m : ℕ) × (m < suc count) × (p m ≡ true)) → (m : ℕ) × (m < suc count) × (p m ≡ true)
    by_last true e rest = (count, omega arith, e)
    by_last false e rest =
        let none : cond (p count) 1 0 ≡ 0 = none_if (p count) e in
        let last : count_by p (span 0 (suc count)) ≡ count_by p (span 0 count) + cond (p count) 1 0 = ap (λ n. count_by p (span 0 n)) (sym (add-one count))
        ∙ count_last p count in
        rest (omega (arith, none, last))

pub begins : (table : List Code) (count v : ℕ) → is_table_sound table count ≡ true → v < 256 →
    (m : ℕ) × (m < count) × (is_prefix (code_bits (entry table m)) (bits_of 8 v) ≡ true)
begins table count v sound small =
    counted_somewhere (λ s. is_prefix (code_bits (entry table s)) (bits_of 8 v)) count (omega (arith, table_begins table count v sound small))

-- these bits and enough zeros, cut to eight
module _ (bits : List Bool) where
  octet : List Bool
  octet = take 8 (bits ++ copies 8 false)

  length-octet : length octet ≡ 8
  unfolding octet
  length-octet = length-take-le 8 (bits ++ copies 8 false) (omega (arith, length-append bits (copies 8 false), length-copies 8 false))

  octet_value : bits_of 8 (value_of octet) ≡ octet
  octet_value = grind (arith, nat_tests, octet, length-octet, bits_of-value_of)

  octet_small : value_of octet < 256
  octet_small = grind (arith, nat_tests, octet, length-octet, value_below)

-- a code that is a prefix of some bits is a prefix of their first eight
begins_octet : (table : List Code) (count m : ℕ) (xs bits : List Bool) → is_table_sound table count ≡ true → m < count →
    code_bits (entry table m) ++ xs ≡ bits →
    is_prefix (code_bits (entry table m)) (bits_of 8 (value_of (octet bits))) ≡ true
unfolding octet
begins_octet table count m xs bits sound below e =
    let c = code_bits (entry table m) in
    let short : length c ≤ 8 = omega (arith, length-bits_of (entry table m).len (entry table m).bits, (table_len table count m sound below).1) in
    let prefix : is_prefix c (take 8 (c ++ (xs ++ copies 8 false))) ≡ true = is_prefix_first c (xs ++ copies 8 false) 8 short in
    let joined : c ++ (xs ++ copies 8 false) ≡ bits ++ copies 8 false = sym (append_assoc c xs (copies 8 false)) ∙ ap (λ l. l ++ copies 8 false) e in
    ap (is_prefix c) (octet_value bits ∙ sym (ap (take 8) joined)) ∙ prefix

apart : (table : List Code) (count m n : ℕ) (xs ys : List Bool) → is_table_sound table count ≡ true → m < n → n < count →
    code_bits (entry table m) ++ xs ≡ code_bits (entry table n) ++ ys → ⊥
apart table count m n xs ys sound below last e =
    let bits = code_bits (entry table n) ++ ys in
    let p = λ (s : ℕ). is_prefix (code_bits (entry table s)) (bits_of 8 (value_of (octet bits))) in
    let two : 2 ≤ count_by p (span 0 count) = count_two p count m n below last
    (begins_octet table count m xs bits sound (omega arith) e) (begins_octet table count n ys bits sound last refl) in
    let one : count_by p (span 0 count) ≡ 1 = table_begins table count (value_of (octet bits)) sound (octet_small bits) in
    omega arith

pub once : (table : List Code) (count m n : ℕ) (xs ys : List Bool) → is_table_sound table count ≡ true →
    m < count → n < count → code_bits (entry table m) ++ xs ≡ code_bits (entry table n) ++ ys → m ≡ n
once table count m n xs ys sound hm hn e = grind (arith, nat_tests, apart)

-- the codes of all symbols, one by one
pub code_there : (book : Book) (length option s : ℕ) → s < 2 ^ length → get_or (codes_of book length option) s [] ≡ code_bits (code_at book length option s)
code_there book length option s below = get_or-map-span (λ s. code_bits (code_at book length option s)) (2 ^ length) s [] below

pub words : (book : Book) (length option : ℕ) → is_book_sound book ≡ true → 2 ≤ length → length ≤ 4 → option + 1 < length →
    IsSound (coded (codes_of book length option))
words book length option sound low high known m n xs ys hm hn e =
    let below : (k : ℕ) → IsSaid (coded (codes_of book length option)) k → k < 2 ^ length =
    λ k h. omega (arith, h, length-map-span (λ s. code_bits (code_at book length option s)) (2 ^ length)) in
    let first = code_there book length option m (below m hm) in
    let second = code_there book length option n (below n hn) in
    let both : code_bits (code_at book length option m) ++ xs ≡ code_bits (code_at book length option n) ++ ys =
    ap (λ l. l ++ xs) (sym first) ∙ e ∙ ap (λ l. l ++ ys) second in
    let same : m ≡ n = once (table book (table_place length option)) (2 ^ length) m n xs ys (sound_table book length option sound low high known)
    (below m hm) (below n hn) both in
    (same, append_cancel_left (code_bits (code_at book length option n)) xs ys (ap (λ k. code_bits (code_at book length option k) ++ xs) (sym same) ∙ both))
