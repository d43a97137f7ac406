-- The rings of a level, and what they hold of an image.
use Rattle.std.specs.Prelude.{ℕ, ◌+◌, ◌-◌, ◌*◌, ◌/◌, ◌≤◌, ℤ, List}
use Rattle.wave_defs.specs.Rolling.{open_high, open_low}
use Rattle.wave_defs.specs.Rings.{AreRows, RowsWithin, AreNewest, even_rows, odd_rows}

-- the number of even rows among k rows
abbrev pub evens_in : ℕ → ℕ
evens_in k = (k + 1) / 2

abbrev pub odds_in : ℕ → ℕ
odds_in k = k / 2

-- the number of pairs of a low and a high row: pair j exists after row 2 * j + 4 was taken
abbrev pub pairs_in : ℕ → ℕ
pairs_in k = (k + 1) / 2 - 2

-- four even rows, two odd rows, and `kept` low and high rows, each of w samples
pub record AreRings (w kept : ℕ) (es os ls hs : List (List ℤ)) : Type 0 where
  pub evens : AreRows 4 w es
  pub odds : AreRows 2 w os
  pub lows : AreRows kept w ls
  pub highs : AreRows kept w hs
  pub two : 2 ≤ kept

-- they hold the newest of e even and o odd rows of an image, and the newest of p pairs
pub record HoldPairs (a : ℕ → ℕ → ℤ) (w e o p : ℕ) (es os ls hs : List (List ℤ)) : Type 0 where
  pub evens : AreNewest (even_rows a) w e es
  pub odds : AreNewest (odd_rows a) w o os
  pub lows : AreNewest (open_low a) w p ls
  pub highs : AreNewest (open_high a) w p hs

-- the samples are of a level whose rows are within 2 * m
pub record AreSmall (m w : ℕ) (es os ls hs : List (List ℤ)) : Type 0 where
  pub evens : RowsWithin (2 * m) w es
  pub odds : RowsWithin (2 * m) w os
  pub lows : RowsWithin (5 * m) w ls
  pub highs : RowsWithin (5 * m) w hs
