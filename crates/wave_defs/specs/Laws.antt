-- The laws that the definitions keep.
use Rattle.std.specs.Prelude.{◌≡◌, ℕ, ◌+◌, ◌*◌, ◌^◌, ◌≤◌, ◌<◌, ◌-◌, ℤ, ◌-ℤ◌, ◌*ℤ◌, List, slice_index}
use Rattle.wave_defs.specs.Line.{predicted, low_of, high_of, merged}
use Rattle.wave_defs.specs.Level.{Quarters, level, joined}
use Rattle.wave_defs.specs.Pyramid.{Pyramid, pyramid, rebuilt}
use Rattle.wave_defs.specs.Within.{IsWithin, AllWithin, EachWithin, PyramidWithin}
use Rattle.wave_defs.specs.Blocks.{IsPlace, place_of, coefficient, weight_at}

-- y is the line x of 2 * n samples with what the mirror puts on both sides of it, and has sample i
-- at i + 2: sample -i is sample i, and sample 2 * n - 1 + i is sample 2 * n - 1 - i
pub record IsMirrored (n : ℕ) (x y : ℕ → ℤ) : Type 0 where
  pub inside : (i : ℕ) → i < 2 * n → y (i + 2) ≡ x i
  pub left : (i : ℕ) → i ≤ 2 → y (2 - i) ≡ x i
  pub right : (i : ℕ) → i ≤ 3 → y (2 * n + 1 + i) ≡ x (2 * n - 1 - i)

-- a high sample by the standard's formula: samples 2 * j - 2, 2 * j, 2 * j + 2 and 2 * j + 4 of the
-- mirrored line
pub record LineMirrors : Type 0 where
  pub high : (x y : ℕ → ℤ) (n j : ℕ) → 3 ≤ n → j < n → IsMirrored n x y
      → high_of x n j ≡ x (2 * j + 1) -ℤ predicted (y (2 * j)) (y (2 * j + 2)) (y (2 * j + 4)) (y (2 * j + 6))

-- a line that is split and joined again is the line, and the same in the other order
pub record LineUndoes : Type 0 where
  pub back : (x : ℕ → ℤ) (n : ℕ) → merged (low_of x n) (high_of x n) n ≡ x
  pub low_again : (c d : ℕ → ℤ) (n : ℕ) → low_of (merged c d n) n ≡ c
  pub high_again : (c d : ℕ → ℤ) (n : ℕ) → high_of (merged c d n) n ≡ d

-- the same for a level of an image
pub record LevelUndoes : Type 0 where
  pub back : (a : ℕ → ℕ → ℤ) (n m : ℕ) → joined (level a n m) n m ≡ a
  pub again : (q : Quarters) (n m : ℕ) → level (joined q n m) n m ≡ q

-- and for three levels
pub record PyramidUndoes : Type 0 where
  pub back : (a : ℕ → ℕ → ℤ) (r c : ℕ) → rebuilt (pyramid a r c) r c ≡ a
  pub again : (p : Pyramid) (r c : ℕ) → pyramid (rebuilt p r c) r c ≡ p

-- Magnitudes. A pass over lines takes a bound of 2 * m to 5 * m, so for pixels of at most 65,536
-- the bounds are 409,600, 2,560,000 and 16,000,000 after one, two and three levels.
pub record ForwardBounds : Type 0 where
  pub low : (m n : ℕ) (x : ℕ → ℤ) → 2 ≤ m → 2 ≤ n → AllWithin (2 * m) (2 * n) x
      → AllWithin (5 * m) n (low_of x n)
  pub high : (m n : ℕ) (x : ℕ → ℤ) → 2 ≤ m → 2 ≤ n → AllWithin (2 * m) (2 * n) x
      → AllWithin (5 * m) n (high_of x n)
  pub bands : (a : ℕ → ℕ → ℤ) (r c : ℕ) → 2 ≤ r → 2 ≤ c → EachWithin (2 ^ 16) (8 * r) (8 * c) a
      → PyramidWithin 409600 2560000 16000000 r c (pyramid a r c)

-- Each position has its place within the block, and with weights of at most 3 the numbers stay
-- below 2 ^ 27.
pub record BlockBounds : Type 0 where
  pub place : (i : ℕ) → i < 64 → IsPlace (place_of i)
  pub weighted : (r c i j k : ℕ) (p : Pyramid) (weights : List ℕ) → i < r → j < c → k < 64
      → ((band : ℕ) → slice_index weights band ≤ 3) → PyramidWithin 409600 2560000 16000000 r c p
      → IsWithin 128000000 (coefficient p i j k *ℤ weight_at weights k)

-- A pass of the inverse multiplies a bound of at least 9 by at most 3, so from bands of at most
-- 2 ^ 27 the six passes stay below 2 ^ 37.
pub record InverseBounds : Type 0 where
  pub line : (m n : ℕ) (c d : ℕ → ℤ) → 9 ≤ m → 2 ≤ n → AllWithin m n c → AllWithin m n d
      → AllWithin (3 * m) (2 * n) (merged c d n)
  pub image : (m : ℕ) (p : Pyramid) (r c : ℕ) → 9 ≤ m → 2 ≤ r → 2 ≤ c → PyramidWithin m m m r c p
      → EachWithin (3 ^ 6 * m) (8 * r) (8 * c) (rebuilt p r c)
