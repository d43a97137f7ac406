-- The first rows of a picture, as octets. This project's own.
use Rattle.std.specs.Prelude.{ℕ, ℤ, List, min}
use Rattle.base_122.specs.Sizes.{block_count}
use Rattle.base_122.specs.declared.geometry.Geometry.{Geometry}
use Rattle.wave_defs.specs.Pyramid.{Pyramid}
use Rattle.raster_rows.specs.Pixels.{raster_octets}
use Rattle.stream_defs.specs.Picture.{pyramid_with, whole_with}

-- the ten bands of blocks with these numbers, which are counted in raster order
abbrev pub bands_of : Geometry → (ℕ → ℕ → ℤ) → Pyramid
bands_of g numbers = pyramid_with numbers (block_count g.width) g.weights.shifts

-- the octets of the first n rows of the picture that such blocks give, or of all of them
unfoldable pub rows_of : Geometry → (ℕ → ℕ → ℤ) → ℕ → List ℕ
rows_of g numbers n = raster_octets g.depth (min n g.rows) g.width (whole_with g numbers)
