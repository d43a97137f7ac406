-- The small picture with one value for each block. This project's own.
use Rattle.std.specs.Prelude.{◌≡◌, ℕ, ◌+◌, ◌*◌, ◌^◌, ℤ, List}
use Rattle.base_122.specs.Sizes.{block_count}
use Rattle.base_122.specs.Weights.{shift_of}
use Rattle.base_122.specs.declared.geometry.Geometry.{Geometry}
use Rattle.base_122.specs.declared.weights.Band.TheVariants.{Ll3}
use Rattle.wave_defs.specs.Line.{floor_div}
use Rattle.raster_rows.specs.Pixels.{clamped, raster_octets}
use Rattle.stream_defs.specs.Begun.{block_rows}
use Rattle.stream_defs.specs.Picture.{number_at, pyramid_with}
use Rattle.strip_decoder.specs.Runs.{Numbers}

-- the coefficient of LL3 at block row r and block column s: number 0 of that block, divided by two to the weight of LL3
unfoldable pub low_with : Geometry → (ℕ → ℕ → ℤ) → (r s : ℕ) → ℤ
low_with g numbers r s = floor_div (numbers (r * block_count g.width + s) 0) (2 ^ shift_of g.weights.shifts Ll3)

-- the same, clamped once to the range of pixels
abbrev pub look_with : Geometry → (ℕ → ℕ → ℤ) → (r s : ℕ) → ℤ
look_with g numbers r s = clamped g.depth g.signed (low_with g numbers r s)

-- the octets of its first k rows, one for each block row
abbrev pub rows_with : Geometry → (ℕ → ℕ → ℤ) → (k : ℕ) → List ℕ
rows_with g numbers k = raster_octets g.depth k (block_count g.width) (look_with g numbers)

-- the look at received segments; the numbers of a missing block are 0
abbrev pub look : Geometry → Numbers → (r s : ℕ) → ℤ
look g received = look_with g (number_at g received)

abbrev pub look_rows : Geometry → Numbers → (k : ℕ) → List ℕ
look_rows g received = rows_with g (number_at g received)

-- the octets of all its rows, if the kept heads reach n block rows
abbrev pub look_octets : Geometry → Numbers → (n : ℕ) → List ℕ
look_octets g received n = look_rows g received (block_rows g n)

-- each value is that of the lowest of the bands that the picture is made from
pub record LookIsLow : Type 0 where
  pub at : (g : Geometry) (numbers : ℕ → ℕ → ℤ) (r s : ℕ) → low_with g numbers r s ≡ (pyramid_with numbers (block_count g.width) g.weights.shifts).ll3 r s
