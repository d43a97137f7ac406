-- What a level's columns hold of the low and the high rows that they took.
use Rattle.std.specs.Prelude.{ℕ, ℤ}
use Rattle.inverse_strip.specs.declared.columns.Columns.{Columns}
use Rattle.inverse_strip.specs.Kept.{HoldPairs, ArePairsWithin}

-- the columns are as after the first pairs of low rows c and high rows d
abbrev pub Follow : (ℕ → ℕ → ℤ) → (ℕ → ℕ → ℤ) → Columns → Type 0
Follow c d s = HoldPairs c d s.width s.taken s.evens s.highs

-- the low rows are within m
abbrev pub IsSmall : ℕ → Columns → Type 0
IsSmall m s = ArePairsWithin m s.width s.taken s.evens s.highs
