-- The rows that the rolling inverse keeps, if all their numbers are 0.
use Rattle.std.specs.Prelude.{◌≡◌, ℕ, ℤ, pos, List, [], slice_index_or}
use Rattle.wave_defs.specs.Held.{signal}
use Rattle.inverse_strip.specs.declared.columns.Columns.{Columns}
use Rattle.inverse_strip.specs.declared.level.InverseLevel.{InverseLevel}
use Rattle.inverse_strip.specs.declared.stage.LevelStage.{LevelStage}

-- a row of zeros
abbrev pub zeros : ℕ → ℤ
zeros k = pos 0

pub record IsZeroRow (row : List ℤ) : Type 0 where
  pub at : (k : ℕ) → signal row k ≡ pos 0

pub record AreZeroRows (rows : List (List ℤ)) : Type 0 where
  pub at : (t k : ℕ) → signal (slice_index_or rows t []) k ≡ pos 0

pub record AreZeroColumns (s : Columns) : Type 0 where
  pub evens : AreZeroRows s.evens
  pub highs : AreZeroRows s.highs

pub record IsZeroLevel (s : InverseLevel) : Type 0 where
  pub left : AreZeroColumns s.left
  pub right : AreZeroColumns s.right

pub record IsZeroStage (s : LevelStage) : Type 0 where
  pub level : IsZeroLevel s.level
  pub hl : AreZeroRows s.hl
  pub lh : AreZeroRows s.lh
  pub hh : AreZeroRows s.hh

-- the three levels, and the last row that was made
pub record IsQuiet (a : InverseLevel) (b c : LevelStage) (x : List ℤ) : Type 0 where
  pub third : IsZeroLevel a
  pub second : IsZeroStage b
  pub first : IsZeroStage c
  pub row : IsZeroRow x
