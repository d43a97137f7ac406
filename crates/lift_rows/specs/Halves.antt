-- A line as its even and its odd samples.
use Rattle.std.specs.Prelude.{ℕ, ◌+◌, ◌-◌, ◌*◌, ℤ, ◌+ℤ◌, ◌-ℤ◌}
use Rattle.wave_defs.specs.Line.{predicted, prediction, correction}

unfoldable pub evens : (ℕ → ℤ) → ℕ → ℤ
evens x k = x (2 * k)

unfoldable pub odds : (ℕ → ℤ) → ℕ → ℤ
odds x k = x (2 * k + 1)

-- the high samples, from the odd and the even ones, of which there are n
unfoldable pub high_half : (ℕ → ℤ) → (ℕ → ℤ) → ℕ → ℕ → ℤ
high_half odd even n j = odd j -ℤ prediction even n j

-- the low samples, from the even and the high ones
unfoldable pub low_half : (ℕ → ℤ) → (ℕ → ℤ) → ℕ → ℤ
low_half even high j = even j -ℤ correction (high (j - 1)) (high j)

-- the odd samples, from the high and the even ones, of which there are n
unfoldable pub odd_half : (ℕ → ℤ) → (ℕ → ℤ) → ℕ → ℕ → ℤ
odd_half high even n j = high j +ℤ prediction even n j

-- the odd samples from the second one on that have no mirrored even sample, from their high ones and all even ones
unfoldable pub inner_half : (ℕ → ℤ) → (ℕ → ℤ) → ℕ → ℤ
inner_half high even j = high j +ℤ predicted (even j) (even (1 + j)) (even (2 + j)) (even (3 + j))
