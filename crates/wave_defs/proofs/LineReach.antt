-- The samples that a sample of a line depends on, in the inverse and forward.
use Rattle.std.proofs.Common.{◌≡◌, ℕ, ◌+◌, ◌*◌, ◌/◌, ◌<◌, ◌≤◌, ℤ, arith}
use Rattle.std.proofs.lemmas.Bool.Decides.{nat_tests}
use Rattle.wave_defs.specs.Line.{prediction, even_of, odd_of, merged, even_within}

-- two lines of 2 * n and 2 * n' samples have the same mirror round even sample k
pub record SameMirror (n n' k : ℕ) : Type 0 where
  pub next : even_within n (k + 1) ≡ even_within n' (k + 1)
  pub second : even_within n (k + 2) ≡ even_within n' (k + 2)

pub SameMirror-same : (n n' k : ℕ) → n ≡ n' → SameMirror n n' k
SameMirror-same n n' k e = record { next = omega arith; second = omega arith }

pub SameMirror-far : (n n' k : ℕ) → k + 2 < n → k + 2 < n' → SameMirror n n' k
SameMirror-far n n' k h h' = record { next = omega arith; second = omega arith }

-- the low and the high samples that sample i of the inverse depends on are the same
pub record SameLow (n i : ℕ) (c c' : ℕ → ℤ) : Type 0 where
  pub at : (j : ℕ) → j < n → 2 * j ≤ i + 3 → i ≤ 2 * j + 3 → c j ≡ c' j

pub record SameHigh (n i : ℕ) (d d' : ℕ → ℤ) : Type 0 where
  pub at : (j : ℕ) → j < n → 2 * j ≤ i + 3 → i ≤ 2 * j + 5 → d j ≡ d' j

even_of-reach : (n i u : ℕ) (c c' d d' : ℕ → ℤ) → u < n → 2 * u ≤ i + 3 → i ≤ 2 * u + 3 → SameLow n i c c' → SameHigh n i d d' → even_of c d u ≡ even_of c' d' u
unfolding even_of
even_of-reach n i u c c' d d' hu below above low high = grind (arith, nat_tests)

odd_of-reach : (n n' k : ℕ) (c c' d d' : ℕ → ℤ) → 2 ≤ n → k < n → SameMirror n n' k → SameLow n (2 * k + 1) c c' → SameHigh n (2 * k + 1) d d' →
    odd_of c d n k ≡ odd_of c' d' n' k
unfolding odd_of prediction
odd_of-reach n n' k c c' d d' two h mirror low high = grind (arith, nat_tests, even_of-reach)

pub merged-reach : (n n' i : ℕ) (c c' d d' : ℕ → ℤ) → 2 ≤ n → i < 2 * n → (i ≡ 2 * (i / 2) + 1 → SameMirror n n' (i / 2)) → SameLow n i c c' →
    SameHigh n i d d' → merged c d n i ≡ merged c' d' n' i
unfolding merged
merged-reach n n' i c c' d d' two h mirror low high = grind (arith, nat_tests, even_of-reach, odd_of-reach)
