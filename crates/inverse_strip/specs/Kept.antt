-- The rings of the columns of a level of the inverse, and what they hold.
use Rattle.std.specs.Prelude.{◌≡◌, ℕ, ◌+◌, ◌-◌, ◌*◌, ◌/◌, ◌^◌, ◌≤◌, ◌<◌, ◌⊎◌, ℤ, List}
use Rattle.wave_defs.specs.Lifted.{columns_even}
use Rattle.wave_defs.specs.Within.{EachWithin}
use Rattle.wave_defs.specs.Rings.{AreRows, AreNewest}

-- four even rows and three high ones, each of w samples
pub record AreRings (w : ℕ) (es hs : List (List ℤ)) : Type 0 where
  pub evens : AreRows 4 w es
  pub highs : AreRows 3 w hs

-- The newest even and high rows, after n pairs of low rows c and high rows d were taken. The condition depends only on the
-- pairs that were taken, so a level follows every image that begins with them.
pub record HoldPairs (c d : ℕ → ℕ → ℤ) (w n : ℕ) (es hs : List (List ℤ)) : Type 0 where
  pub evens : AreNewest (columns_even c d) w n es
  pub highs : AreNewest d w n hs

-- n pairs of low rows within m and high rows within 2 ^ 27, after which the rings are as they are
pub record PairsWithin (m w n : ℕ) (es hs : List (List ℤ)) : Type 0 where
  pub low : ℕ → ℕ → ℤ
  pub high : ℕ → ℕ → ℤ
  pub hold : HoldPairs low high w n es hs
  pub low_within : EachWithin m n w low
  pub high_within : EachWithin (2 ^ 27) n w high

-- there are such pairs
abbrev pub ArePairsWithin : (m w n : ℕ) (es hs : List (List ℤ)) → Type 0
ArePairsWithin m w n es hs = ∥ PairsWithin m w n es hs ∥₁

-- the bound of the rows that such pairs make, and of the rows of a level whose left columns are made of them
abbrev pub column_bound : ℕ → ℕ
column_bound m = 5 * m / 4 + (2 ^ 27 + 2)

abbrev pub level_bound : ℕ → ℕ
level_bound m = 5 * column_bound m / 4 + (column_bound (2 ^ 27) + 2)

-- In what follows, n rows of each band were taken and i rows of the image were given.

-- the next row can be given, if the bands have `height` rows in all: all rows that it is made from were taken
pub record HasRow (n i height : ℕ) : Type 0 where
  pub three : 3 ≤ n
  pub made : (i + 3 < 2 * n) ⊎ ((n ≡ height) × (i < 2 * n))

-- the next row is made from rows that are still kept
pub record Waits (n i : ℕ) : Type 0 where
  pub kept : n ≤ i / 2 + 3
  pub given : i ≤ 2 * n

-- this would hold after one more row of each band
abbrev pub IsDrained : ℕ → ℕ → Type 0
IsDrained n i = n ≤ i / 2 + 2

-- n block rows of `height` were taken, and each level gave these numbers of rows to the next one: what waits is still kept,
-- and before the last block row each level gave only what no later row changes.
pub record Counts (n third second first height : ℕ) : Type 0 where
  pub within : n ≤ height
  pub second_waits : 2 * n ≤ third + 6
  pub first_waits : 4 * n ≤ second + 13
  pub third_open : n < height → third ≤ 2 * n - 3
  pub second_open : n < height → second ≤ 2 * third - 3
  pub first_open : n < height → first ≤ 2 * second - 3

-- an image of r block rows may begin with the n that were taken, if its height is given as `height`
pub record IsCompletion (n height r : ℕ) : Type 0 where
  pub more : n ≤ r
  pub whole : n ≡ height → r ≡ height

-- The next row can be made: it is one of the first 8 * n - 21, or all n block rows were taken.
pub record HasNext (n next height : ℕ) : Type 0 where
  pub made : (next + 21 < 8 * n) ⊎ ((n ≡ height) × (next < 8 * n))

-- no row is left to make before the next block row
pub record IsIdle (n next height : ℕ) : Type 0 where
  pub next_waits : n < height → 8 * n ≤ next + 21
  pub all_given : n ≡ height → next ≡ 8 * n
