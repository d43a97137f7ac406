-- The number of samples that a strip holds: the lengths of all lists of numbers inside it.
use Rattle.std.specs.Prelude.{ℕ, ◌+◌, ℤ, List, length, Option, None, Some, Vec, vec_len}
use Rattle.std.specs.List.{sum_by}
use Rattle.wave_strip.specs.declared.columns.Columns.{Columns}
use Rattle.wave_strip.specs.declared.level.Level as code
use Rattle.wave_strip.specs.declared.strip.StripWave.{StripWave}

abbrev pub samples_in : List (List ℤ) → ℕ
samples_in rows = sum_by length rows

abbrev pub room_in : {A Z : Type 0} → Option (Vec A Z) → ℕ
room_in None = 0
room_in (Some row) = vec_len row

abbrev pub column_samples : Columns → ℕ
column_samples c = samples_in c.evens + samples_in c.odds + samples_in c.lows + samples_in c.highs

abbrev pub level_samples : code.Level → ℕ
level_samples l = column_samples l.columns + room_in l.spare

abbrev pub samples_of : StripWave → ℕ
samples_of s = level_samples s.first + level_samples s.second + level_samples s.third
