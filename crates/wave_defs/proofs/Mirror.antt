-- Why the mirror of the even samples in specs/Line.antt is the standard's on samples: sample -i is sample i, and sample
-- 2 * n - 1 + i is sample 2 * n - 1 - i.
use Rattle.std.proofs.Common.{◌≡◌, ℕ, ◌+◌, ◌-◌, ◌*◌, ◌<◌, ◌≤◌, ℤ, ◌-ℤ◌, arith}
use Rattle.std.proofs.lemmas.Bool.Decides.{nat_tests}
use Rattle.wave_defs.specs.Line.{predicted, prediction, high_of, even_before, even_within}
use Rattle.wave_defs.specs.Laws.{IsMirrored}

-- inside on the left nothing is mirrored
pub mirrored_before : (j : ℕ) → 1 ≤ j → 2 * even_before j ≡ 2 * j - 2
mirrored_before j h = omega arith

-- inside on the right nothing is mirrored
pub mirrored_within : (n k : ℕ) → k < n → 2 * even_within n k ≡ 2 * k
mirrored_within n k h = omega arith

-- and past the end the sample at 2 * n - 1 + i is the one at 2 * n - 1 - i
pub mirrored_after : (n k i : ℕ) → k < 2 * n → 2 * k ≡ 2 * n - 1 + i → 2 * even_within n k ≡ 2 * n - 1 - i
mirrored_after n k i h e = omega arith

-- ---- the mirrored line at an even place, from the left and from the right

at_left : (x y : ℕ → ℤ) (n j : ℕ) → 3 ≤ n → j < n → IsMirrored n x y → y (2 * j) ≡ x (2 * even_before j)
at_left x y n j long h m = grind (arith, nat_tests, mirrored_before)

at_right : (x y : ℕ → ℤ) (n k : ℕ) → 3 ≤ n → k ≤ n + 1 → IsMirrored n x y → y (2 * k + 2) ≡ x (2 * even_within n k)
at_right x y n k long h m = grind (arith, nat_tests, mirrored_within, mirrored_after)

pub high_of-mirrored : (x y : ℕ → ℤ) (n j : ℕ) → 3 ≤ n → j < n → IsMirrored n x y → high_of x n j ≡ x (2 * j + 1) -ℤ predicted (y (2 * j)) (y (2 * j + 2))
    (y (2 * j + 4)) (y (2 * j + 6))
unfolding high_of prediction
high_of-mirrored x y n j long h m = grind (arith, nat_tests, at_left, at_right)
