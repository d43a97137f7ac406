-- What three levels, one below the other, hold of an image.
use Rattle.std.specs.Prelude.{ℕ, ◌*◌, ℤ}
use Rattle.wave_defs.specs.Level.{level}
use Rattle.wave_defs.specs.Rolling.{mirrored, beside}
use Rattle.wave_strip.specs.declared.columns.Columns.{Columns}
use Rattle.wave_strip.specs.Columns.{Follow}

-- an image of n block rows of m block columns, and the low bands of its first and second level
abbrev pub first_low : (ℕ → ℕ → ℤ) → ℕ → ℕ → ℕ → ℕ → ℤ
first_low x n m = (level x (4 * n) (4 * m)).ll

abbrev pub second_low : (ℕ → ℕ → ℤ) → ℕ → ℕ → ℕ → ℕ → ℤ
second_low x n m = (level (first_low x n m) (2 * n) (2 * m)).ll

-- each level is as after the first rows of the image that it transforms
pub record FollowLevels (x : ℕ → ℕ → ℤ) (n m : ℕ) (a b c : Columns) : Type 0 where
  pub first : Follow (mirrored (beside x (4 * m)) (4 * n)) a
  pub second : Follow (mirrored (beside (first_low x n m) (2 * m)) (2 * n)) b
  pub third : Follow (mirrored (beside (second_low x n m) m) n) c

-- the second and the third level alone; x is the image of the second
pub record FollowTwo (x : ℕ → ℕ → ℤ) (n m : ℕ) (b c : Columns) : Type 0 where
  pub second : Follow (mirrored (beside x (2 * m)) (2 * n)) b
  pub third : Follow (mirrored (beside (level x (2 * n) (2 * m)).ll m) n) c
