-- What a strip shows of the images that begin with the rows it took.
use Rattle.std.specs.Prelude.{◌≡◌, ℕ, ◌+◌, ◌-◌, ◌*◌, ℤ, Bool, false}
use Rattle.wave_defs.specs.Pyramid.{Pyramid, pyramid, band_of}
use Rattle.wave_defs.specs.Blocks.{Place, block_side}
use Rattle.block_families.specs.Places.{IsWithin}
use Rattle.wave_strip.specs.declared.strip.StripWave.{StripWave}
use Rattle.wave_strip.specs.Columns.{low_sample, high_sample}
use Rattle.wave_strip.specs.Levels.{FollowLevels}

-- the rows taken, the block rows answered, the columns of blocks, and whether the end was reached
abbrev pub rows_of : StripWave → ℕ
rows_of s = s.rows

abbrev pub answered_of : StripWave → ℕ
answered_of s = s.answered

abbrev pub columns_of : StripWave → ℕ
columns_of s = s.third.half

abbrev pub has_ended : StripWave → Bool
has_ended s = s.ended

abbrev pub is_current : StripWave → Bool
is_current s = s.current

-- the strip is as after the first rows of this image of r block rows
abbrev pub Follows : (ℕ → ℕ → ℤ) → ℕ → StripWave → Type 0
Follows image r s = FollowLevels image r s.third.half s.first.columns s.second.columns s.third.columns

-- no row was taken, so the strip follows each image
pub record IsAtStart (s : StripWave) : Type 0 where
  pub rows : s.rows ≡ 0
  pub answered : s.answered ≡ 0
  pub running : s.ended ≡ false
  pub none : s.current ≡ false
  pub follows : (image : ℕ → ℕ → ℤ) (r : ℕ) → Follows image r s

-- the bands whose newest rows the levels keep: a row has its low half first
abbrev pub bands_in : StripWave → Pyramid
bands_in s = record {
  hh1 = λ j i. high_sample s.first.columns j (s.first.half + i);
  hl1 = λ j i. low_sample s.first.columns j (s.first.half + i);
  lh1 = λ j i. high_sample s.first.columns j i;
  hh2 = λ j i. high_sample s.second.columns j (s.second.half + i);
  hl2 = λ j i. low_sample s.second.columns j (s.second.half + i);
  lh2 = λ j i. high_sample s.second.columns j i;
  hh3 = λ j i. high_sample s.third.columns j (s.third.half + i);
  hl3 = λ j i. low_sample s.third.columns j (s.third.half + i);
  lh3 = λ j i. high_sample s.third.columns j i;
  ll3 = λ j i. low_sample s.third.columns j i;
}

-- the number at a place of the block row that was answered last
abbrev pub number_in : StripWave → Place → ℤ
number_in s p = band_of (bands_in s) p.band (block_side p.band * (s.answered - 1) + p.row) p.column

-- these numbers are those of the bands of the image
pub record ShowsBlockRow (image : ℕ → ℕ → ℤ) (r : ℕ) (s : StripWave) : Type 0 where
  pub at : (p : Place) → IsWithin s.third.half p
      → number_in s p ≡ band_of (pyramid image r s.third.half) p.band (block_side p.band * (s.answered - 1) + p.row) p.column
