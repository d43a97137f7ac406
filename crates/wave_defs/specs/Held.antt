-- What slices hold of lines, images and blocks.
use Rattle.std.specs.Prelude.{◌≡◌, ℕ, ◌<◌, ◌+◌, ◌*◌, ◌/◌, ℤ, pos, List, length, map, take, drop, slice_index_or}
use Rattle.std.specs.List.{range_with_len}
use Rattle.wave_defs.specs.Level.{Quarters}
use Rattle.wave_defs.specs.Pyramid.{Pyramid}

-- the line that a slice holds
abbrev pub signal : List ℤ → ℕ → ℤ
signal xs i = slice_index_or xs i (pos 0)

-- the image whose rows of `width` samples a slice holds, one after the other
abbrev pub grid : ℕ → List ℤ → ℕ → ℕ → ℤ
grid width cells i j = slice_index_or cells (i * width + j) (pos 0)

-- block r of numbers in block order, 64 in each, and all of the blocks
abbrev pub block_at : List ℤ → ℕ → List ℤ
block_at cells r = take 64 (drop (64 * r) cells)

unfoldable pub blocks_in : List ℤ → List (List ℤ)
blocks_in cells = map (block_at cells) (range_with_len 0 (length cells / 64))

-- the first n samples are the same
pub record Agrees (n : ℕ) (x y : ℕ → ℤ) : Type 0 where
  pub at : (k : ℕ) → k < n → x k ≡ y k

-- the first rows are the same up to a column
pub record SameWithin (rows columns : ℕ) (a b : ℕ → ℕ → ℤ) : Type 0 where
  pub at : (i j : ℕ) → i < rows → j < columns → a i j ≡ b i j

-- the four bands of a level are the same, n rows of m samples in each
pub record SameQuarters (n m : ℕ) (p q : Quarters) : Type 0 where
  pub ll : SameWithin n m p.ll q.ll
  pub hl : SameWithin n m p.hl q.hl
  pub lh : SameWithin n m p.lh q.lh
  pub hh : SameWithin n m p.hh q.hh

-- the ten bands of r block rows of c blocks are the same
pub record SamePyramid (r c : ℕ) (p q : Pyramid) : Type 0 where
  pub hh1 : SameWithin (4 * r) (4 * c) p.hh1 q.hh1
  pub hl1 : SameWithin (4 * r) (4 * c) p.hl1 q.hl1
  pub lh1 : SameWithin (4 * r) (4 * c) p.lh1 q.lh1
  pub hh2 : SameWithin (2 * r) (2 * c) p.hh2 q.hh2
  pub hl2 : SameWithin (2 * r) (2 * c) p.hl2 q.hl2
  pub lh2 : SameWithin (2 * r) (2 * c) p.lh2 q.lh2
  pub hh3 : SameWithin r c p.hh3 q.hh3
  pub hl3 : SameWithin r c p.hl3 q.hl3
  pub lh3 : SameWithin r c p.lh3 q.lh3
  pub ll3 : SameWithin r c p.ll3 q.ll3
