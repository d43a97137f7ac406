-- What the contracts of the passes say of arrays of samples.
use Rattle.std.specs.Prelude.{◌≡◌, ℕ, ℤ}
use Rattle.wave_plain.specs.declared.samples.Samples.{Samples}
use Rattle.wave_plain.specs.declared.level.PlainLevel.{PlainLevel}
use Rattle.wave_defs.specs.Level.{Quarters}
use Rattle.wave_defs.specs.Held.{grid, SameWithin}
use Rattle.wave_plain.specs.Images.{Shows}

abbrev pub samples_of : Samples → ℕ → ℕ → ℤ
samples_of s = grid s.width s.cells.items

-- the samples have these rows and columns, and hold this image
pub record ShowsSamples (rows columns : ℕ) (a : ℕ → ℕ → ℤ) (s : Samples) : Type 0 where
  pub rows_are : s.rows ≡ rows
  pub columns_are : s.width ≡ columns
  pub cells : SameWithin rows columns (samples_of s) a

-- the two halves of a pass
pub record ShowsHalves (rows columns : ℕ) (a b : ℕ → ℕ → ℤ) (s : Samples × Samples) : Type 0 where
  pub low : ShowsSamples rows columns a s.0
  pub high : ShowsSamples rows columns b s.1

-- the bands of a level, n rows of m samples in each
pub record ShowsLevel (n m : ℕ) (q : Quarters) (l : PlainLevel) : Type 0 where
  pub ll : ShowsSamples n m q.ll l.ll
  pub hl : Shows n m q.hl l.hl
  pub lh : Shows n m q.lh l.lh
  pub hh : Shows n m q.hh l.hh
