-- What a test of a whole table says of one entry.
use Rattle.std.proofs.Common.{refl, ap, ◌≡◌, ℕ, zero, suc, ◌+◌, ◌^◌, ◌<◌, ◌≤◌, ◌⊎◌, inl, inr, Bool, true, List, [], ◌∷◌, sym, ◌∙◌, arith, zero-add, ◌==◌}
use Rattle.std.proofs.Common.{◌&&◌, nat_le, count_by, leb-true, eqb-true}
use Rattle.std.specs.List.{list_all}
use Rattle.std.proofs.lemmas.List.Folds.{list_all-append}
use Rattle.std.proofs.lemmas.Bool.Decides.{nat_tests}
use Rattle.item_defs.specs.Bits.{bits_of}
use Rattle.base_122.specs.declared.book.Code.{Code}
use Rattle.base_122.specs.declared.book.Book.{Book}
use Rattle.plane_defs.specs.Spans.{span}
use Rattle.plane_defs.specs.Codes.{entry, table, table_place, is_table_sound, is_book_sound, code_at, code_bits, is_prefix}

pub and-left : (a b : Bool) → (a && b) ≡ true → a ≡ true
and-left a b h = grind (arith, nat_tests)

pub and-right : (a b : Bool) → (a && b) ≡ true → b ≡ true
and-right a b h = grind (arith, nat_tests)

-- a test that each place passes is passed by the span
pub list_all-span : (p : ℕ → Bool) (count : ℕ) → ((k : ℕ) → k < count → p k ≡ true) → list_all p (span 0 count) ≡ true
unfolding span
list_all-span p zero each = refl
list_all-span p (suc count) each =
    let before = list_all-span p count (λ k lt. each k (omega arith)) in
    let last : p (0 + count) ≡ true = ap p (zero-add count) ∙ each count (omega arith) in
    rw (list_all-append, before, last) refl

-- a test that a whole span passes is passed at each of its places
pub list_all-span-at : (p : ℕ → Bool) (start count k : ℕ) → list_all p (span start count) ≡ true → k < count → p (start + k) ≡ true
unfolding span
list_all-span-at p start zero k all below = absurd (omega arith)
list_all-span-at p start (suc count) k all below =
    let parts : (list_all p (span start count) && (p (start + count) && true)) ≡ true = sym (list_all-append p (span start count) ((start + count) ∷ []))
    ∙ all in
    let last : p (start + count) ≡ true = and-left _ _ (and-right _ _ parts) in
    let here : (k < count) ⊎ (k ≡ count) = below_or_at k count (omega arith) in
    elim here [ inl h ↦ list_all-span-at p start count k (and-left _ _ parts) h | inr e ↦ rw e last ]
  where
    below_or_at : (k n : ℕ) → k < n + 1 → (k < n) ⊎ (k ≡ n)
    below_or_at k n h = grind arith

pub list_all-span-zero : (p : ℕ → Bool) (count k : ℕ) → list_all p (span 0 count) ≡ true → k < count → p k ≡ true
list_all-span-zero p count k all below = let h = list_all-span-at p 0 count k all below in rw zero-add at h

-- each code has 1 to 8 bits
pub table_len : (t : List Code) (count s : ℕ) → is_table_sound t count ≡ true → s < count → (1 ≤ (entry t s).len) × ((entry t s).len ≤ 8)
unfolding is_table_sound
table_len t count s sound below =
    let here = list_all-span-zero (λ s. nat_le 1 (entry t s).len && nat_le (entry t s).len 8) count s (and-left _ _ sound) below in
    (leb-true 1 (entry t s).len (and-left _ _ here), leb-true (entry t s).len 8 (and-right _ _ here))

-- each string of eight bits begins with exactly one code
pub table_begins : (t : List Code) (count v : ℕ) → is_table_sound t count ≡ true → v < 256 →
    count_by (λ s. is_prefix (code_bits (entry t s)) (bits_of 8 v)) (span 0 count) ≡ 1
unfolding is_table_sound
table_begins t count v sound below =
    eqb-true _ 1 (list_all-span-zero (λ v. count_by (λ s. is_prefix (code_bits (entry t s)) (bits_of 8 v)) (span 0 count) == 1) 256 v (and-right _ _ sound)
    below)

pub sound_table : (book : Book) (length option : ℕ) → is_book_sound book ≡ true → 2 ≤ length → length ≤ 4 → option + 1 < length →
    is_table_sound (table book (table_place length option)) (2 ^ length) ≡ true
sound_table book length option sound low high known = grind (arith, and-left, and-right)

pub code_len : (book : Book) (length option s : ℕ) → is_book_sound book ≡ true → 2 ≤ length → length ≤ 4 → option + 1 < length → s < 2 ^ length →
    (code_at book length option s).len ≤ 8
code_len book length option s sound low high known below = grind (arith, nat_tests, table_len, sound_table)
