-- The symbols of all words, and the words of all symbols, by the rule.
use Rattle.std.proofs.Common.{false, ◌≡◌, ℕ, zero, suc, ◌≤◌, ◌<◌, ◌^◌, true, [], ◌∷◌, refl, arith, get_or, ◌==◌, nat_lt, ltb-true}
use Rattle.std.specs.List.{list_all}
use lib.Count.{ones}
use Rattle.plane_defs.specs.Spans.{span}
use Rattle.plane_defs.specs.Codes.{symbol, names_option}
use Rattle.plane_defs.proofs.Tables.{list_all-span-zero}

of_two : list_all (λ w. get_or (0 ∷ 2 ∷ 1 ∷ 3 ∷ []) w 0 == symbol 2 w) (span 0 4) ≡ true
unfolding symbol span ones
of_two = refl

of_three : list_all (λ w. get_or (0 ∷ 3 ∷ 2 ∷ 6 ∷ 1 ∷ 5 ∷ 4 ∷ 7 ∷ []) w 0 == symbol 3 w) (span 0 8) ≡ true
unfolding symbol span ones
of_three = refl

of_four : list_all (λ w. get_or (0 ∷ 4 ∷ 3 ∷ 10 ∷ 2 ∷ 9 ∷ 8 ∷ 14 ∷ 1 ∷ 7 ∷ 6 ∷ 13 ∷ 5 ∷ 12 ∷ 11 ∷ 15 ∷ []) w 0 == symbol 4 w) (span 0 16) ≡ true
unfolding symbol span ones
of_four = refl

pub symbol-of_two : (w : ℕ) → w < 4 → get_or (0 ∷ 2 ∷ 1 ∷ 3 ∷ []) w 0 ≡ symbol 2 w
symbol-of_two w h = grind (arith, list_all-span-zero (λ w. get_or (0 ∷ 2 ∷ 1 ∷ 3 ∷ []) w 0 == symbol 2 w) 4 w of_two h)

pub symbol-of_three : (w : ℕ) → w < 8 → get_or (0 ∷ 3 ∷ 2 ∷ 6 ∷ 1 ∷ 5 ∷ 4 ∷ 7 ∷ []) w 0 ≡ symbol 3 w
symbol-of_three w h = grind (arith, list_all-span-zero (λ w. get_or (0 ∷ 3 ∷ 2 ∷ 6 ∷ 1 ∷ 5 ∷ 4 ∷ 7 ∷ []) w 0 == symbol 3 w) 8 w of_three h)

pub symbol-of_four : (w : ℕ) → w < 16 → get_or (0 ∷ 4 ∷ 3 ∷ 10 ∷ 2 ∷ 9 ∷ 8 ∷ 14 ∷ 1 ∷ 7 ∷ 6 ∷ 13 ∷ 5 ∷ 12 ∷ 11 ∷ 15 ∷ []) w 0 ≡ symbol 4 w
symbol-of_four w h =
    grind (arith, list_all-span-zero (λ w. get_or (0 ∷ 4 ∷ 3 ∷ 10 ∷ 2 ∷ 9 ∷ 8 ∷ 14 ∷ 1 ∷ 7 ∷ 6 ∷ 13 ∷ 5 ∷ 12 ∷ 11 ∷ 15 ∷ []) w 0 == symbol 4 w) 16 w of_four h)

-- ---- and the words of all symbols

words_of_two : list_all (λ s. symbol 2 (get_or (0 ∷ 2 ∷ 1 ∷ 3 ∷ []) s 0) == s) (span 0 4) ≡ true
unfolding symbol span ones
words_of_two = refl

words_of_three : list_all (λ s. symbol 3 (get_or (0 ∷ 4 ∷ 2 ∷ 1 ∷ 6 ∷ 5 ∷ 3 ∷ 7 ∷ []) s 0) == s) (span 0 8) ≡ true
unfolding symbol span ones
words_of_three = refl

words_of_four : list_all (λ s. symbol 4 (get_or (0 ∷ 8 ∷ 4 ∷ 2 ∷ 1 ∷ 12 ∷ 10 ∷ 9 ∷ 6 ∷ 5 ∷ 3 ∷ 14 ∷ 13 ∷ 11 ∷ 7 ∷ 15 ∷ []) s 0) == s) (span 0 16) ≡ true
unfolding symbol span ones
words_of_four = refl

pub word_at_two : (n s : ℕ) → n ≡ 2 → s < 2 ^ n → symbol n (get_or (0 ∷ 2 ∷ 1 ∷ 3 ∷ []) s 0) ≡ s
word_at_two n s e h = rw e (grind (arith, list_all-span-zero (λ s. symbol 2 (get_or (0 ∷ 2 ∷ 1 ∷ 3 ∷ []) s 0) == s) 4 s words_of_two (rw e at h)))

pub word_at_three : (n s : ℕ) → n ≡ 3 → s < 2 ^ n → symbol n (get_or (0 ∷ 4 ∷ 2 ∷ 1 ∷ 6 ∷ 5 ∷ 3 ∷ 7 ∷ []) s 0) ≡ s
word_at_three n s e h = rw e (grind (
  arith,
  list_all-span-zero (λ s. symbol 3 (get_or (0 ∷ 4 ∷ 2 ∷ 1 ∷ 6 ∷ 5 ∷ 3 ∷ 7 ∷ []) s 0) == s) 8 s words_of_three
      (rw e at h),
))

pub word_at_four : (n s : ℕ) → n ≡ 4 → s < 2 ^ n → symbol n (get_or (0 ∷ 8 ∷ 4 ∷ 2 ∷ 1 ∷ 12 ∷ 10 ∷ 9 ∷ 6 ∷ 5 ∷ 3 ∷ 14 ∷ 13 ∷ 11 ∷ 7 ∷ 15 ∷ []) s 0) ≡ s
word_at_four n s e h = rw e (grind (
  arith,
  list_all-span-zero
      (λ s. symbol 4 (get_or (0 ∷ 8 ∷ 4 ∷ 2 ∷ 1 ∷ 12 ∷ 10 ∷ 9 ∷ 6 ∷ 5 ∷ 3 ∷ 14 ∷ 13 ∷ 11 ∷ 7 ∷ 15 ∷ []) s 0) == s) 16 s words_of_four (rw e at h),
))

-- ---- for any length

symbols_below : (n : ℕ) → 2 ≤ n → n ≤ 4 → list_all (λ v. nat_lt (symbol n v) (2 ^ n)) (span 0 (2 ^ n)) ≡ true
unfolding symbol span ones
symbols_below zero low high = absurd (omega arith)
symbols_below (suc zero) low high = absurd (omega arith)
symbols_below (suc (suc zero)) low high = refl
symbols_below (suc (suc (suc zero))) low high = refl
symbols_below (suc (suc (suc (suc zero)))) low high = refl
symbols_below (suc (suc (suc (suc (suc n))))) low high = absurd (omega arith)

pub symbol-below : (n v : ℕ) → 2 ≤ n → n ≤ 4 → v < 2 ^ n → symbol n v < 2 ^ n
symbol-below n v low high lt = ltb-true (symbol n v) (2 ^ n) (list_all-span-zero (λ v. nat_lt (symbol n v) (2 ^ n)) (2 ^ n) v (symbols_below n low high) lt)

-- ---- identifiers of options

none_of_three : names_option 3 2 ≡ false
unfolding span
none_of_three = refl

-- identifier 10 of length 3 has no option
pub names_no_option : (length number : ℕ) → length ≡ 3 → number ≡ 2 → names_option length number ≡ false
names_no_option length number e f = rw (e, f) none_of_three
