-- The rows of a raster that a work took, and the texts that were given for them. (This project's own.)
use Rattle.std.specs.Prelude.{◌≡◌, ◌<◌, ◌-◌, ◌*◌, ℕ, ℤ, List, [], length}
use Rattle.port_122.specs.Outside.{Outside, Exchange, GivenBy}
use Rattle.base_122.specs.Sizes.{padded_size}
use Rattle.base_122.specs.declared.setting.Setting.{Setting}
use Rattle.wave_defs.specs.Held.{Agrees, SameWithin, signal}
use Rattle.wave_defs.specs.Pyramid.{padded}
use Rattle.wave_strip.specs.Strip.{rows_of}
use Rattle.stream_defs.specs.Output.{image_blocks}
use Rattle.strip_coder.specs.declared.work.Work.{Work}
use Rattle.strip_coder.specs.Rasters.{row_length, image_of, AreInRange}
use Rattle.strip_coder.specs.Answers.{AsksInRange, TookRaster}
use Rattle.strip_coder.specs.Steps.{IsRowSmall}
use Rattle.strip_coder.specs.Works.{IsRunning, FollowsImage}
use Rattle.bare_stream.specs.Bare.{bare, first_texts}
use Rattle.bare_stream.specs.Rasters.{texts_for}
use Rattle.bare_stream.specs.Works.{job}

-- an image begins with the first k rows of a raster
abbrev pub BeginsSo : Setting → ℕ → (took : List ℕ) → (ℕ → ℕ → ℤ) → Type 0
BeginsSo s k took y = SameWithin k s.width (image_of s took) y

-- the texts before the present segment
abbrev pub texts_before : Setting → (took : List ℕ) → Work → List ℕ
texts_before s took w = first_texts s (image_blocks s (image_of s took)) w.at.index

-- Since a start exactly the first k rows of a raster were taken, each value in range. The work follows each image that begins with them, its
-- row is the last of them, padded, and the texts of the segments before the present one are given.
pub record HasArrived (s : Setting) (k : ℕ) (p q : Outside) (w : Work) : Type 0 where
  pub running : IsRunning (job s) w
  pub rows : rows_of w.strip ≡ k
  pub took : List ℕ
  pub whole : length took ≡ k * row_length s
  pub in_range : AreInRange s took (k * s.width)
  pub follows : (y : ℕ → ℕ → ℤ) → BeginsSo s k took y → FollowsImage (job s) y w
  pub small : 0 < k → IsRowSmall (job s) w
  pub last : 0 < k → (y : ℕ → ℕ → ℤ) → BeginsSo s k took y →
      Agrees (padded_size s.width) (signal w.row.items) (padded y s.rows s.width (k - 1))
  pub since : Exchange p q took (texts_before s took w) [] (GivenBy (texts_for s) took)
  pub asks : Exchange p q took (texts_before s took w) [] (AsksInRange s took)

-- all rows of the raster were taken, and all texts of its image are given
pub record AllTexts (s : Setting) (p q : Outside) (w : Work) : Type 0 where
  pub took : List ℕ
  pub raster : TookRaster s s.rows took
  pub used : w.at.used ≡ length (bare s (image_of s took))
  pub since : Exchange p q took (bare s (image_of s took)) [] (GivenBy (texts_for s) took)
  pub asks : Exchange p q took (bare s (image_of s took)) [] (AsksInRange s took)
