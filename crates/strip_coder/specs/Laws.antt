-- The laws of what an encoder has given. This project's own.
use Rattle.std.specs.Prelude.{◌≡◌, ◌≢◌, ◌*◌, ℕ, List, ◌++◌, length}
use Rattle.base_122.specs.Ranges.{IsInRange}
use Rattle.base_122.specs.declared.setting.Setting.{Setting}
use Rattle.stream_defs.specs.Output.{output}
use Rattle.strip_coder.specs.Rasters.{row_length, image_of, given_for}

-- if the rows aren't reported last, the last row of a raster settles all packets of its image, whatever octets follow
pub record LastRowSettlesAll : Type 0 where
  pub all : (s : Setting) (raster more : List ℕ) → IsInRange s → s.rows ≢ 0 → length raster ≡ s.rows * row_length s →
      given_for s (raster ++ more) ≡ output s s.rows (image_of s raster)
