-- The rows of the bands that the first rows of an image determine, whatever rows follow.
use Rattle.std.specs.Prelude.{ℕ, ◌+◌, ◌*◌, ◌≤◌, ◌<◌, ℤ}
use Rattle.wave_defs.specs.Level.{level}
use Rattle.wave_defs.specs.Pyramid.{Pyramid, pyramid}
use Rattle.wave_defs.specs.Held.{SameWithin, SameQuarters}

-- the bands up to block row b of c block columns are the same: of the first two levels also the rows
-- that the next level needs for it
pub record SameUpTo (b c : ℕ) (p q : Pyramid) : Type 0 where
  pub hh1 : SameWithin (4 * b + 13) (4 * c) p.hh1 q.hh1
  pub hl1 : SameWithin (4 * b + 13) (4 * c) p.hl1 q.hl1
  pub lh1 : SameWithin (4 * b + 13) (4 * c) p.lh1 q.lh1
  pub hh2 : SameWithin (2 * b + 5) (2 * c) p.hh2 q.hh2
  pub hl2 : SameWithin (2 * b + 5) (2 * c) p.hl2 q.hl2
  pub lh2 : SameWithin (2 * b + 5) (2 * c) p.lh2 q.lh2
  pub hh3 : SameWithin (b + 1) c p.hh3 q.hh3
  pub hl3 : SameWithin (b + 1) c p.hl3 q.hl3
  pub lh3 : SameWithin (b + 1) c p.lh3 q.lh3
  pub ll3 : SameWithin (b + 1) c p.ll3 q.ll3

-- Row 2 * j + 4 of its image determines row j of a level, and row 8 * b + 28 determines block row b.
pub record RowsSettle : Type 0 where
  pub of_level : (x y : ℕ → ℕ → ℤ) (n k m j : ℕ) → 2 ≤ m → j + 2 < n → j + 2 < k
      → SameWithin (2 * j + 5) (2 * m) x y → SameQuarters (j + 1) m (level x n m) (level y k m)
  pub of_pyramid : (x y : ℕ → ℕ → ℤ) (r s c b : ℕ) → 2 ≤ c → 8 * b + 29 ≤ 8 * r → 8 * b + 29 ≤ 8 * s
      → SameWithin (8 * b + 29) (8 * c) x y → SameUpTo b c (pyramid x r c) (pyramid y s c)
