-- A block row of bands over a whole array.
use Rattle.std.specs.Prelude.{◌<◌, ◌≤◌, ◌^◌, ℕ, ◌+◌, ◌*◌, ◌/◌, ℤ}
use Rattle.wave_defs.specs.Pyramid.{band_of}
use Rattle.wave_defs.specs.Within.{PyramidWithin}
use Rattle.wave_defs.specs.Blocks.{Place, block_side}
use Rattle.wave_plain.specs.declared.Bands.{Bands}
use Rattle.wave_plain.specs.Images.{pyramid_in, IsWhole}

-- the number at a place of a block row
abbrev pub number_in : Bands → ℕ → Place → ℤ
number_in b row p = band_of (pyramid_in b) p.band (block_side p.band * row + p.row) p.column

-- the bands of an image have this block row
pub record IsBlockRow (b : Bands) (row : ℕ) : Type 0 where
  pub whole : IsWhole (b.rows / 8) (b.width / 8) b
  pub small : PyramidWithin 409600 2560000 16000000 (b.rows / 8) (b.width / 8) (pyramid_in b)
  pub valid : row < b.rows / 8
  pub few : b.rows / 8 ≤ 2 ^ 15
