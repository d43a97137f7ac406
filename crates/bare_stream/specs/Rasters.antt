-- What is given for a raster that was taken so far. (This project's own.)
use Rattle.std.specs.Prelude.{◌≡◌, ◌≢◌, ℕ, List}
use Rattle.base_122.specs.Ranges.{IsInRange}
use Rattle.base_122.specs.declared.setting.Setting.{Setting}
use Rattle.stream_defs.specs.Output.{image_blocks}
use Rattle.stream_defs.specs.SettledImages.{settled_in}
use Rattle.strip_coder.specs.Rasters.{image_of, whole_rows}
use Rattle.bare_stream.specs.Bare.{first_texts}

-- a setting of a bare stream: the rows are known before, and there is no bound on all texts
pub record IsBare (s : Setting) : Type 0 where
  pub in_range : IsInRange s
  pub known : s.rows ≢ 0
  pub no_total : s.total ≡ 0

-- the texts of the segments that the first k rows of a raster settle
unfoldable pub settled_texts : Setting → (taken : List ℕ) → (k : ℕ) → List ℕ
settled_texts s taken k = first_texts s (image_blocks s (image_of s taken)) (settled_in s s.rows k)

-- what is given once these octets are taken: the texts of the segments that the whole rows settle
unfoldable pub texts_for : Setting → List ℕ → List ℕ
texts_for s taken = settled_texts s taken (whole_rows s taken)
