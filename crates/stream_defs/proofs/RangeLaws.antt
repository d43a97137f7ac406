-- Damaged rows depend only on the missing block rows that can reach them.
use Rattle.std.proofs.Common.{◌≡◌, ◌≤◌, ◌<◌, ◌+◌, ◌-◌, ◌*◌, ℕ, List, [], ◌∷◌, length, map, refl, arith, Bool, true, false, ◌==◌, ◌&&◌, ◌||◌, not, nat_lt}
use Rattle.std.proofs.Common.{filter, take_while}
use Rattle.std.specs.List.{range_with_len, list_any}
use Rattle.std.proofs.lemmas.Bool.{false≢true, eqb-true, or_left, or_right, ltb-true}
use Rattle.std.proofs.lemmas.Bool.Decides.{nat_tests}
use Rattle.plane_defs.proofs.Chosen.{equal_self}
use Rattle.wave_defs.specs.Reach.{reaches}
use Rattle.stream_defs.specs.declared.range.RowRange.{RowRange}
use Rattle.stream_defs.specs.Damage.{is_damaged, ranges}

-- ---- lists of numbers

-- a number is in a list
abbrev pub is_among : List ℕ → ℕ → Bool
is_among xs r = list_any (λ k. k == r) xs

-- one of them passes a test
some_passes : (p : ℕ → Bool) (xs : List ℕ) → list_any p xs ≡ true → (r : ℕ) × (p r ≡ true) × (is_among xs r ≡ true)
some_passes p [] e = absurd (false≢true e)
some_passes p (x ∷ xs) e = grind (arith, nat_tests, or_left, equal_self, or_right, some_passes p xs)

passes_some : (p : ℕ → Bool) (xs : List ℕ) (r : ℕ) → p r ≡ true → is_among xs r ≡ true → list_any p xs ≡ true
passes_some p [] r passes e = absurd (false≢true e)
passes_some p (x ∷ xs) r passes e = grind (arith, nat_tests, or_left, eqb-true, or_right, passes_some p xs r passes)

-- a test that only numbers below a bound pass is the same for lists with the same numbers below it
any_below : (p : ℕ → Bool) (n : ℕ) (xs ys : List ℕ) → ((r : ℕ) → p r ≡ true → r < n) → ((r : ℕ) → r < n → is_among xs r ≡ is_among ys r) →
    list_any p xs ≡ list_any p ys
any_below p n xs ys low same = grind (arith, nat_tests, some_passes, passes_some, false≢true)

-- ---- damaged rows

-- block rows from n on reach no row before the first 8 * n - 21
reaches_low : (n r row : ℕ) → row + 21 < 8 * n → reaches r row ≡ true → r < n
reaches_low n r row low e = grind (arith, nat_tests)

row_low : (rows n row : ℕ) → rows ≤ 8 * n - 21 → nat_lt row rows ≡ true → row + 21 < 8 * n
row_low rows n row most e = let lt : row < rows = ltb-true row rows e in omega (arith, lt, most)

damaged_below : (rows n : ℕ) (xs ys : List ℕ) → rows ≤ 8 * n - 21 → ((r : ℕ) → r < n → is_among xs r ≡ is_among ys r) → (row : ℕ) →
    is_damaged rows xs row ≡ is_damaged rows ys row
damaged_below rows n xs ys most same row = by (nat_lt row rows) refl
  where
    by : (b : Bool) → nat_lt row rows ≡ b → (b && list_any (λ r. reaches r row) xs) ≡ (b && list_any (λ r. reaches r row) ys)
    by false e = refl
    by true e = any_below (λ r. reaches r row) n xs ys (λ r hit. reaches_low n r row (row_low rows n row most e) hit) same

-- the ranges by the test of a row
ranges_by : (rows : ℕ) → (ℕ → Bool) → List RowRange
ranges_by rows d =
    map (λ row. record { first = row; last = row + length (take_while d (range_with_len row (rows - row))) - 1 })
    (filter (λ row. d row && ((row == 0) || not (d (row - 1)))) (range_with_len 0 rows))

-- The ranges of rows below 8 * n - 21 are the same for lists with the same block rows below n.
pub ranges_below : (rows n : ℕ) (xs ys : List ℕ) → rows ≤ 8 * n - 21 → ((r : ℕ) → r < n → is_among xs r ≡ is_among ys r) → ranges rows xs ≡ ranges rows ys
unfolding ranges ranges_by
ranges_below rows n xs ys most same = λ i. ranges_by rows (λ row. damaged_below rows n xs ys most same row i)
