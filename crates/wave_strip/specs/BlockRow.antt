-- Two pyramids that are the same in one block row.
use Rattle.std.specs.Prelude.{◌≡◌, ℕ, ◌+◌, ◌*◌, ◌<◌, ◌≤◌, ℤ}
use Rattle.wave_defs.specs.Pyramid.{Pyramid}

-- the rows from one place to another are the same up to a column
pub record SameRows (from to columns : ℕ) (x y : ℕ → ℕ → ℤ) : Type 0 where
  pub at : (j i : ℕ) → from ≤ j → j < to → i < columns → x j i ≡ y j i

-- block row b of m block columns
pub record SameBlockRow (b m : ℕ) (p q : Pyramid) : Type 0 where
  pub hh1 : SameRows (4 * b) (4 * b + 4) (4 * m) p.hh1 q.hh1
  pub hl1 : SameRows (4 * b) (4 * b + 4) (4 * m) p.hl1 q.hl1
  pub lh1 : SameRows (4 * b) (4 * b + 4) (4 * m) p.lh1 q.lh1
  pub hh2 : SameRows (2 * b) (2 * b + 2) (2 * m) p.hh2 q.hh2
  pub hl2 : SameRows (2 * b) (2 * b + 2) (2 * m) p.hl2 q.hl2
  pub lh2 : SameRows (2 * b) (2 * b + 2) (2 * m) p.lh2 q.lh2
  pub hh3 : SameRows b (b + 1) m p.hh3 q.hh3
  pub hl3 : SameRows b (b + 1) m p.hl3 q.hl3
  pub lh3 : SameRows b (b + 1) m p.lh3 q.lh3
  pub ll3 : SameRows b (b + 1) m p.ll3 q.ll3
