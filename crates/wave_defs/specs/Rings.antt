-- What a ring of rows, from the oldest to the newest, holds.
use Rattle.std.specs.Prelude.{◌≡◌, ℕ, ◌+◌, ◌-◌, ◌*◌, ◌<◌, ◌≤◌, ℤ, List, [], length, slice_index_or}
use Rattle.wave_defs.specs.Within.{AllWithin}
use Rattle.wave_defs.specs.Held.{Agrees, signal}

-- a number of rows of w samples
pub record AreRows (count w : ℕ) (rows : List (List ℤ)) : Type 0 where
  pub count_is : length rows ≡ count
  pub wide : (t : ℕ) → t < count → length (slice_index_or rows t []) ≡ w

-- each sample of the rows is within the bound
pub record RowsWithin (bound w : ℕ) (rows : List (List ℤ)) : Type 0 where
  pub at : (t : ℕ) → t < length rows → AllWithin bound w (signal (slice_index_or rows t []))

-- the newest ones of the first n rows of a sequence; if n is small, the oldest places hold none
pub record AreNewest (f : ℕ → ℕ → ℤ) (w n : ℕ) (rows : List (List ℤ)) : Type 0 where
  pub at : (t : ℕ) → t < length rows → length rows ≤ n + t
      → Agrees w (signal (slice_index_or rows t [])) (f (n + t - length rows))

-- the even and the odd rows of an image
abbrev pub even_rows : (ℕ → ℕ → ℤ) → ℕ → ℕ → ℤ
even_rows a i = a (2 * i)

abbrev pub odd_rows : (ℕ → ℕ → ℤ) → ℕ → ℕ → ℤ
odd_rows a i = a (2 * i + 1)
