-- Magnitudes: the bounds of numbers, lines, images and pyramids.
use Rattle.std.specs.Prelude.{ℕ, ◌*◌, ◌<◌, ℤ, pos, neg_ℤ, ◌≤ℤ◌}
use Rattle.wave_defs.specs.Level.{Quarters}
use Rattle.wave_defs.specs.Pyramid.{Pyramid}

-- the absolute value is at most the bound
pub record IsWithin (bound : ℕ) (z : ℤ) : Type 0 where
  pub above : neg_ℤ (pos bound) ≤ℤ z
  pub below : z ≤ℤ pos bound

-- the first n samples are within the bound
pub record AllWithin (bound n : ℕ) (x : ℕ → ℤ) : Type 0 where
  pub at : (k : ℕ) → k < n → IsWithin bound (x k)

-- the samples of the first rows are within the bound up to a column
pub record EachWithin (bound rows columns : ℕ) (a : ℕ → ℕ → ℤ) : Type 0 where
  pub at : (i j : ℕ) → i < rows → j < columns → IsWithin bound (a i j)

-- all four bands of a level, each of n rows of m samples
pub record QuartersWithin (bound n m : ℕ) (q : Quarters) : Type 0 where
  pub ll : EachWithin bound n m q.ll
  pub hl : EachWithin bound n m q.hl
  pub lh : EachWithin bound n m q.lh
  pub hh : EachWithin bound n m q.hh

-- the bands of the first, the second and the third level, of r block rows of c blocks
pub record PyramidWithin (first second third r c : ℕ) (p : Pyramid) : Type 0 where
  pub hh1 : EachWithin first (4 * r) (4 * c) p.hh1
  pub hl1 : EachWithin first (4 * r) (4 * c) p.hl1
  pub lh1 : EachWithin first (4 * r) (4 * c) p.lh1
  pub hh2 : EachWithin second (2 * r) (2 * c) p.hh2
  pub hl2 : EachWithin second (2 * r) (2 * c) p.hl2
  pub lh2 : EachWithin second (2 * r) (2 * c) p.lh2
  pub hh3 : EachWithin third r c p.hh3
  pub hl3 : EachWithin third r c p.hl3
  pub lh3 : EachWithin third r c p.lh3
  pub ll3 : EachWithin third r c p.ll3
