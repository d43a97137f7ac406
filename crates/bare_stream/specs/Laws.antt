-- The laws of what an encoder of a bare stream has given. (This project's own.)
use Rattle.std.specs.Prelude.{◌≡◌, ◌*◌, List, ℕ, ◌++◌, length}
use Rattle.base_122.specs.declared.setting.Setting.{Setting}
use Rattle.strip_coder.specs.Rasters.{row_length, image_of}
use Rattle.bare_stream.specs.Bare.{bare}
use Rattle.bare_stream.specs.Rasters.{IsBare, texts_for}

-- the last row of a raster settles all texts of its image, whatever octets follow
pub record LastRowSettlesTexts : Type 0 where
  pub all : (s : Setting) (raster more : List ℕ) → IsBare s → length raster ≡ s.rows * row_length s → texts_for s (raster ++ more) ≡ bare s (image_of s raster)
