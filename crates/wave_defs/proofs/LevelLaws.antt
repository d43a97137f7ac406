-- One level and its inverse undo each other in both orders.
use mathlib.Core.Path.{fun_ext}
use Rattle.std.proofs.Common.{◌≡◌, ℕ, ℤ, ap, arith}
use Rattle.std.proofs.lemmas.Bool.Decides.{nat_tests}
use Rattle.wave_defs.specs.Level.{Quarters, rows_low, rows_high, columns_low, columns_high, rows_merged, columns_merged, level, joined}
use Rattle.wave_defs.proofs.LineLaws.{merged_of-forward, low_of-of_merged, high_of-of_merged}

pub rows_merged-forward : (a : ℕ → ℕ → ℤ) (n : ℕ) → rows_merged (rows_low a n) (rows_high a n) n ≡ a
unfolding rows_merged rows_low rows_high
rows_merged-forward a n = fun_ext (λ i. merged_of-forward (a i) n)

pub columns_merged-forward : (a : ℕ → ℕ → ℤ) (n : ℕ) → columns_merged (columns_low a n) (columns_high a n) n ≡ a
unfolding columns_merged columns_low columns_high
columns_merged-forward a n = fun_ext (λ i. fun_ext (λ j. ap (λ (x : ℕ → ℤ). x i) (merged_of-forward (λ r. a r j) n)))

pub joined-level : (a : ℕ → ℕ → ℤ) (n m : ℕ) → joined (level a n m) n m ≡ a
unfolding joined level
joined-level a n m = rw (columns_merged-forward (rows_low a m) n, columns_merged-forward (rows_high a m) n) (rows_merged-forward a m)

-- the same in the other order
rows_low-merged : (x y : ℕ → ℕ → ℤ) (n : ℕ) → rows_low (rows_merged x y n) n ≡ x
unfolding rows_low rows_merged
rows_low-merged x y n = fun_ext (λ i. low_of-of_merged (x i) (y i) n)

rows_high-merged : (x y : ℕ → ℕ → ℤ) (n : ℕ) → rows_high (rows_merged x y n) n ≡ y
unfolding rows_high rows_merged
rows_high-merged x y n = fun_ext (λ i. high_of-of_merged (x i) (y i) n)

columns_low-merged : (x y : ℕ → ℕ → ℤ) (n : ℕ) → columns_low (columns_merged x y n) n ≡ x
unfolding columns_low columns_merged
columns_low-merged x y n = fun_ext (λ i. fun_ext (λ j. ap (λ (s : ℕ → ℤ). s i) (low_of-of_merged (λ r. x r j) (λ r. y r j) n)))

columns_high-merged : (x y : ℕ → ℕ → ℤ) (n : ℕ) → columns_high (columns_merged x y n) n ≡ y
unfolding columns_high columns_merged
columns_high-merged x y n = fun_ext (λ i. fun_ext (λ j. ap (λ (s : ℕ → ℤ). s i) (high_of-of_merged (λ r. x r j) (λ r. y r j) n)))

pub level-joined : (q : Quarters) (n m : ℕ) → level (joined q n m) n m ≡ q
unfolding level joined
level-joined q n m = grind (arith, nat_tests, rows_low-merged, rows_high-merged, columns_low-merged, columns_high-merged)
