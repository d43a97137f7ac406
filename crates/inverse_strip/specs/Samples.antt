-- The number of samples that the rolling inverse holds: the lengths of all lists of numbers inside it.
use Rattle.std.specs.Prelude.{ℕ, ◌+◌, ℤ, List, [], ◌∷◌, length, vec_len}
use Rattle.inverse_strip.specs.declared.columns.Columns.{Columns}
use Rattle.inverse_strip.specs.declared.level.InverseLevel.{InverseLevel}
use Rattle.inverse_strip.specs.declared.stage.LevelStage.{LevelStage}
use Rattle.inverse_strip.specs.declared.strip.StripInverse.{StripInverse}

abbrev pub row_samples : List (List ℤ) → ℕ
row_samples [] = 0
row_samples (x ∷ xs) = length x + row_samples xs

abbrev pub columns_samples : Columns → ℕ
columns_samples s = row_samples s.evens + row_samples s.highs

abbrev pub level_samples : InverseLevel → ℕ
level_samples s = columns_samples s.left + columns_samples s.right + vec_len s.left_row + vec_len s.right_row

abbrev pub stage_samples : LevelStage → ℕ
stage_samples s = level_samples s.level + row_samples s.hl + row_samples s.lh + row_samples s.hh

abbrev pub strip_samples : StripInverse → ℕ
strip_samples s =
    level_samples s.third + stage_samples s.second + stage_samples s.first + vec_len s.row + row_samples s.next.rows
