-- The raster of a made image, and parts of its rows. This project's own.
use Rattle.std.specs.Prelude.{ℕ, List, map}
use Rattle.std.specs.List.{range_with_len}
use Rattle.raster_rows.specs.declared.made.MadeImage.{MadeImage}
use Rattle.raster_rows.specs.Pixels.{pixel_octets, raster_octets}
use Rattle.raster_rows.specs.Made.{made_value}

-- the octets of all its rows
abbrev pub made_raster : MadeImage → List ℕ
made_raster made = raster_octets made.depth made.rows made.width (made_value made)

-- the octets of a number of pixels of a row, from a column on
abbrev pub made_part : MadeImage → ℕ → ℕ → ℕ → List ℕ
made_part made row first count = pixel_octets made.depth (map (made_value made row) (range_with_len first count))
