-- What a level's columns hold of an image whose first rows they took.
use Rattle.std.specs.Prelude.{ℕ, ◌+◌, ◌-◌, ℤ, pos, List, [], slice_index_or}
use Rattle.wave_strip.specs.declared.columns.Columns.{Columns}
use Rattle.wave_strip.specs.Kept.{HoldPairs, AreSmall, evens_in, odds_in, pairs_in}

-- the columns are as after the first rows of this image
abbrev pub Follow : (ℕ → ℕ → ℤ) → Columns → Type 0
Follow a c = HoldPairs a c.width (evens_in c.taken) (odds_in c.taken) (pairs_in c.taken) c.evens c.odds c.lows c.highs

abbrev pub IsSmall : ℕ → Columns → Type 0
IsSmall m c = AreSmall m c.width c.evens c.odds c.lows c.highs

-- row j of the newest of this number of rows
abbrev pub kept_sample : List (List ℤ) → ℕ → ℕ → ℕ → ℕ → ℤ
kept_sample rows kept made j column = slice_index_or (slice_index_or rows (j + kept - made) []) column (pos 0)

abbrev pub low_sample : Columns → ℕ → ℕ → ℤ
low_sample c = kept_sample c.lows c.kept (pairs_in c.taken)

abbrev pub high_sample : Columns → ℕ → ℕ → ℤ
high_sample c = kept_sample c.highs c.kept (pairs_in c.taken)
