-- One level of the transform of an image, by CCSDS 122.0-B-2: each row, then each column. An image
-- is a function from rows and columns to samples.
use Rattle.std.specs.Prelude.{ℕ, ℤ}
use Rattle.wave_defs.specs.Line.{low_of, high_of, merged}

-- each row of 2 * n samples to n low or n high ones
unfoldable pub rows_low : (ℕ → ℕ → ℤ) → ℕ → ℕ → ℕ → ℤ
rows_low a n i j = low_of (a i) n j

unfoldable pub rows_high : (ℕ → ℕ → ℤ) → ℕ → ℕ → ℕ → ℤ
rows_high a n i j = high_of (a i) n j

-- each column of 2 * n samples to n low or n high ones
unfoldable pub columns_low : (ℕ → ℕ → ℤ) → ℕ → ℕ → ℕ → ℤ
columns_low a n i j = low_of (λ r. a r j) n i

unfoldable pub columns_high : (ℕ → ℕ → ℤ) → ℕ → ℕ → ℕ → ℤ
columns_high a n i j = high_of (λ r. a r j) n i

-- the inverse
unfoldable pub rows_merged : (ℕ → ℕ → ℤ) → (ℕ → ℕ → ℤ) → ℕ → ℕ → ℕ → ℤ
rows_merged c d n i j = merged (c i) (d i) n j

unfoldable pub columns_merged : (ℕ → ℕ → ℤ) → (ℕ → ℕ → ℤ) → ℕ → ℕ → ℕ → ℤ
columns_merged c d n i j = merged (λ r. c r j) (λ r. d r j) n i

-- The four bands that one level gives. The first letter is along rows, the second along columns:
-- `hl` is high along its rows and low along its columns.
pub record Quarters : Type 0 where
  pub ll : ℕ → ℕ → ℤ
  pub hl : ℕ → ℕ → ℤ
  pub lh : ℕ → ℕ → ℤ
  pub hh : ℕ → ℕ → ℤ

-- a level of an image of 2 * n rows of 2 * m samples
unfoldable pub level : (ℕ → ℕ → ℤ) → ℕ → ℕ → Quarters
level a n m = record {
  ll = columns_low (rows_low a m) n;
  hl = columns_low (rows_high a m) n;
  lh = columns_high (rows_low a m) n;
  hh = columns_high (rows_high a m) n;
}

-- its inverse: columns first, then rows
unfoldable pub joined : Quarters → ℕ → ℕ → ℕ → ℕ → ℤ
joined b n m = rows_merged (columns_merged b.ll b.lh n) (columns_merged b.hl b.hh n) m
