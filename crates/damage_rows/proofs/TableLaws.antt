-- Block rows in a table of bits.
use Rattle.std.proofs.Common.{◌≡◌, ◌≢◌, ◌≤◌, ◌<◌, ◌+◌, ◌*◌, ◌/◌, ◌%◌, ◌^◌, ℕ, zero, suc, List, [], ◌∷◌, length, refl, sym, ◌∙◌, ap, inl, inr, arith}
use Rattle.std.proofs.Common.{get_or-set_other, Bool, true, false, cond, ◌==◌, ◌||◌, ◌⊎◌, filter, slice_index, slice_set, replicate, bit_and, bit_or}
use Rattle.std.specs.Int.{bit_at, w64}
use Rattle.std.specs.List.{range_with_len, list_any}
use Rattle.std.proofs.lemmas.Bool.Decides.{nat_tests}
use Rattle.std.proofs.lemmas.Bool.{cases_lt, or_left, or_right, eq-eqb, eqb-true}
use Rattle.std.proofs.lemmas.Grind.{get_or-set_at}
use Rattle.std.proofs.lemmas.List.{get_or-replicate, get_or_past, length-replicate}
use Rattle.std.proofs.lemmas.Nat.Bits.{bit_at_set_same, bit_at_set_other, bit_at-zero, shr_and_one}
use Rattle.std.proofs.Math.Bool.{or-false}
use Rattle.stream_defs.proofs.OpenContaining.{any_chosen}
use Rattle.stream_defs.proofs.DamageLaws.{false_or}
use Rattle.stream_defs.specs.Marks.{Marks, most_block_rows, marked}
use Rattle.damage_rows.specs.Table.{is_missing, is_set, set_rows}
use Rattle.stream_defs.proofs.Equations.{most_is, and_missing-is}

equal_false : (m n : ℕ) → m ≢ n → (m == n) ≡ false
equal_false m n e = grind (arith, nat_tests)

unequal_from : (m n : ℕ) → (m == n) ≡ false → m ≢ n
unequal_from m n e = grind (arith, nat_tests)

-- ---- a list of block rows

-- one of them passes a test
pub any_listed : (f : ℕ → Bool) (xs : List ℕ) (i : ℕ) → is_missing xs i ≡ true → f i ≡ true → list_any f xs ≡ true
any_listed f [] i h e = h
any_listed f (x ∷ xs) i h e = at (x == i) refl h (λ later. any_listed f xs i later e)
  where
    at : (b : Bool) → (x == i) ≡ b → (b || list_any (λ k. k == i) xs) ≡ true → (list_any (λ k. k == i) xs ≡ true → list_any f xs ≡ true) →
        (f x || list_any f xs) ≡ true
    at true same h on = or_left (f x) _ (ap f (eqb-true x i same) ∙ e)
    at false other h on = or_right (f x) _ (on h)

-- none of them passes it
pub none_listed : (f : ℕ → Bool) (xs : List ℕ) → ((i : ℕ) → is_missing xs i ≡ true → f i ≡ false) → list_any f xs ≡ false
none_listed f [] none = refl
none_listed f (x ∷ xs) none =
    false_or (f x) _ false (none x (or_left (x == x) _ (eq-eqb x x refl))) (none_listed f xs (λ i h. none i (or_right (x == i) _ h)))

-- ---- the numbers from a on that pass a test

-- none of them passes another test
pub any_none : (f p : ℕ → Bool) (n a : ℕ) → ((i : ℕ) → a ≤ i → i < a + n → p i ≡ true → f i ≡ false) → list_any f (filter p (range_with_len a n)) ≡ false
any_none f p zero a none = refl
any_none f p (suc n) a none =
    at (p a) refl (any_none f p n (a + 1) (λ i low high. none i (omega (arith, low)) (omega (arith, high))))
  where
    at : (b : Bool) → p a ≡ b → list_any f (filter p (range_with_len (a + 1) n)) ≡ false →
        list_any f (cond b (a ∷ filter p (range_with_len (a + 1) n)) (filter p (range_with_len (a + 1) n))) ≡ false
    at true e rest = false_or (f a) _ false (none a (omega arith) (omega arith) e) rest
    at false e rest = rest

-- tests that agree on them choose the same
pub filter_same : (p q : ℕ → Bool) (n a : ℕ) → ((i : ℕ) → a ≤ i → i < a + n → p i ≡ q i) → filter p (range_with_len a n) ≡ filter q (range_with_len a n)
filter_same p q zero a same = refl
filter_same p q (suc n) a same =
    let rest : filter p (range_with_len (a + 1) n) ≡ filter q (range_with_len (a + 1) n) =
    filter_same p q n (a + 1) (λ i low high. same i (omega (arith, low)) (omega (arith, high))) in
    ap (λ b. cond b (a ∷ filter p (range_with_len (a + 1) n)) (filter p (range_with_len (a + 1) n))) (same a (omega arith) (omega arith))
    ∙ ap (λ xs. cond (q a) (a ∷ xs) xs) rest

-- none passes from a on
pub filter_none_from : (p : ℕ → Bool) (n a : ℕ) → ((i : ℕ) → a ≤ i → p i ≡ false) → filter p (range_with_len a n) ≡ []
filter_none_from p zero a none = refl
filter_none_from p (suc n) a none =
    ap (λ b. cond b (a ∷ filter p (range_with_len (a + 1) n)) (filter p (range_with_len (a + 1) n))) (none a (omega arith)) ∙ filter_none_from p n (a + 1)
    (λ i far. none i (omega (arith, far)))

-- a test that none passes from a number on chooses the same as one before it
pub filter_prefix : (p q : ℕ → Bool) (m n : ℕ) → m ≤ n → ((i : ℕ) → i < m → p i ≡ q i) → ((i : ℕ) → m ≤ i → p i ≡ false) →
    filter p (range_with_len 0 n) ≡ filter q (range_with_len 0 m)
filter_prefix p q m n le same none = by 0 m n le (λ i low high. same i (omega (arith, high))) (λ i far. none i (omega (arith, far)))
  where
    by : (a m n : ℕ) → m ≤ n → ((i : ℕ) → a ≤ i → i < a + m → p i ≡ q i) → ((i : ℕ) → a + m ≤ i → p i ≡ false) →
        filter p (range_with_len a n) ≡ filter q (range_with_len a m)
    by a zero n le same none = filter_none_from p n a (λ i far. none i (omega (arith, far)))
    by a (suc m) zero le same none = absurd (omega (arith, le))
    by a (suc m) (suc n) le same none =
        ap (λ b. cond b (a ∷ filter p (range_with_len (a + 1) n)) (filter p (range_with_len (a + 1) n))) (same a (omega arith) (omega arith))
        ∙ ap (λ xs. cond (q a) (a ∷ xs) xs) (by (a + 1) m n (omega (arith, le)) (λ i low high. same i (omega (arith, low)) (omega (arith, high)))
        (λ i far. none i (omega (arith, far))))

-- ---- the table

-- a block row is listed if its bit is set
listed_by : (words : List ℕ) (r : ℕ) → r < 32768 → (b : Bool) → is_set words r ≡ b → is_missing (set_rows words) r ≡ b
unfolding set_rows
listed_by words r low true e =
    any_chosen (λ k. k == r) (is_set words) most_block_rows 0 r (omega arith) (omega (arith, low, most_is)) e (eq-eqb r r refl)
listed_by words r low false e = any_none (λ k. k == r) (is_set words) most_block_rows 0 (λ i from below set. other i (i == r) refl set)
  where
    other : (i : ℕ) (b : Bool) → (i == r) ≡ b → is_set words i ≡ true → b ≡ false
    other i true same set = sym set ∙ ap (is_set words) (eqb-true i r same) ∙ e
    other i false _ set = refl

pub missing_is_set : (words : List ℕ) (r : ℕ) → r < 32768 → is_missing (set_rows words) r ≡ is_set words r
missing_is_set words r low = listed_by words r low (is_set words r) refl

-- no other is listed
pub missing_low : (words : List ℕ) (r : ℕ) → is_missing (set_rows words) r ≡ true → r < 32768
unfolding set_rows
missing_low words r listed = elim (cases_lt r 32768) [
  | inl low ↦ low
  | inr high ↦ absurd (
      let none : is_missing (set_rows words) r ≡ false =
      any_none (λ k. k == r) (is_set words) most_block_rows 0 (λ i from below set. equal_false i r (λ e. absurd (omega (arith, below, high, e, most_is)))) in
      let both : true ≡ false = sym listed ∙ none in cc)
]

-- the bit as the code tests it
pub set_by_shift : (words : List ℕ) (r : ℕ) → (bit_and (slice_index words (r / 64) / 2 ^ (r % 64)) 1 == 1) ≡ is_set words r
unfolding is_set
set_by_shift words r = ap (λ n. n == 1) (shr_and_one (slice_index words (r / 64)) (r % 64))

-- none is set in a table of zeros
pub none_set : set_rows (replicate 512 0) ≡ []
unfolding set_rows is_set
none_set = filter_none_from (is_set (replicate 512 0)) most_block_rows 0 (λ i from. unset i (cases_lt (i / 64) 512))
  where
    zero_there : (i : ℕ) → (i / 64 < 512) ⊎ (512 ≤ i / 64) → slice_index (replicate 512 0) (i / 64) ≡ 0
    zero_there i (inl low) = get_or-replicate 512 (i / 64) 0 0 low
    zero_there i (inr high) = get_or_past (replicate 512 0) (i / 64) 0 (omega (arith, high, length-replicate {A = ℕ} 512 0))

    unset : (i : ℕ) → (i / 64 < 512) ⊎ (512 ≤ i / 64) → is_set (replicate 512 0) i ≡ false
    unset i side = ap (λ n. n / 2 ^ (i % 64) % 2 == 1) (zero_there i side) ∙ ap (λ n. n == 1) (bit_at-zero (i % 64))

-- ---- one bit more

-- the words with the bit of a block row set
abbrev pub with_bit : List ℕ → (block_row : ℕ) → List ℕ
with_bit words r = slice_set words (r / 64) (bit_or (slice_index words (r / 64)) (1 * 2 ^ (r % 64) % 2 ^ 64))

bit_same : (words : List ℕ) (r : ℕ) → r / 64 < length words → is_set (with_bit words r) r ≡ true
unfolding is_set
bit_same words r within =
    ap (λ n. bit_at n (r % 64) == 1) (get_or-set_at words (r / 64) (r / 64) _ 0 refl within)
    ∙ ap (λ n. n == 1) (bit_at_set_same w64 (slice_index words (r / 64)) (r % 64) (omega arith))

bit_other : (words : List ℕ) (r i : ℕ) → r / 64 < length words → i ≢ r → is_set (with_bit words r) i ≡ is_set words i
unfolding is_set
bit_other words r i within other = by_word (i / 64 == r / 64) refl
  where
    by_word : (b : Bool) → (i / 64 == r / 64) ≡ b → is_set (with_bit words r) i ≡ is_set words i
    by_word true same =
        let word : i / 64 ≡ r / 64 = eqb-true (i / 64) (r / 64) same in
        let place : (i % 64 ≡ r % 64) → ⊥ = λ e. other (omega (arith, word, e)) in
        ap (λ k. bit_at (slice_index (with_bit words r) k) (i % 64) == 1) word
        ∙ ap (λ n. bit_at n (i % 64) == 1) (get_or-set_at words (r / 64) (r / 64) _ 0 refl within)
        ∙ ap (λ n. n == 1) (bit_at_set_other w64 (slice_index words (r / 64)) (r % 64) (omega arith) (i % 64) place)
        ∙ ap (λ k. bit_at (slice_index words k) (i % 64) == 1) (sym word)
    by_word false apart =
        ap (λ n. bit_at n (i % 64) == 1) (get_or-set_other words (r / 64) (i / 64) _ 0 (unequal_from (i / 64) (r / 64) apart))

-- it is the table of the block rows with this one
pub marked_by_bit : (words : List ℕ) (rows r : ℕ) → length words ≡ 512 → r < 32768 →
    record { rows = rows; missing = set_rows (with_bit words r) } ≡ marked (record { rows = rows; missing = set_rows words }) r
unfolding set_rows
marked_by_bit words rows r long low =
    ap (λ missing. let m : Marks = record { rows = rows; missing = missing } in m)
    (filter_same (is_set (with_bit words r)) (λ i. is_missing (set_rows words) i || (i == r)) most_block_rows 0
    (λ i from below. at i (omega (arith, below, most_is)) (i == r) refl) ∙ sym (and_missing-is (set_rows words) r))
  where
    at : (i : ℕ) → i < 32768 → (b : Bool) → (i == r) ≡ b → is_set (with_bit words r) i ≡ (is_missing (set_rows words) i || b)
    at i small true same =
        ap (is_set (with_bit words r)) (eqb-true i r same) ∙ bit_same words r (omega (arith, long, low))
        ∙ sym (or_right (is_missing (set_rows words) i) true refl)
    at i small false other =
        bit_other words r i (omega (arith, long, low)) (unequal_from i r other) ∙ sym (missing_is_set words i small)
        ∙ sym (or-false (is_missing (set_rows words) i))

-- ---- block rows that come in rising order
