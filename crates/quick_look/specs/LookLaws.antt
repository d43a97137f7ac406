-- The look at all packets of an image. This project's own.
use Rattle.std.specs.Prelude.{◌≡◌, ◌<◌, ℕ, ℤ, Bool, List, Some}
use Rattle.port_122.specs.Outside.{Outside}
use Rattle.base_122.specs.Setting.{image_geometry}
use Rattle.base_122.specs.Sizes.{block_count}
use Rattle.base_122.specs.declared.setting.Setting.{Setting}
use Rattle.base_122.specs.declared.wish.DecodeWish.{DecodeWish}
use Rattle.raster_rows.specs.Pixels.{clamped, raster_octets}
use Rattle.wave_defs.specs.Pyramid.{padded, pyramid}
use Rattle.stream_defs.specs.Output.{output}
use Rattle.stream_defs.specs.Received.{ReceivedIn}
use Rattle.strip_decoder.specs.declared.ending.DecodeDone.{DecodeDone}
use Rattle.strip_decoder.specs.Images.{texts_for, IsImageFor, SendsAll}
use Rattle.strip_decoder.specs.Runs.{Numbers, holds_after}
use Rattle.quick_look.specs.Look.{look}
use Rattle.quick_look.specs.Looks.{IsLook}

-- the coefficients of LL3 of an image of this setting and this number of rows, each clamped to the range of pixels
abbrev pub low_image : Setting → (rows : ℕ) → (ℕ → ℕ → ℤ) → (r c : ℕ) → ℤ
low_image s rows x r c = clamped s.depth s.signed ((pyramid (padded x rows s.width) (block_count rows) (block_count s.width)).ll3 r c)

-- The look at all packets of an image has these values if the setting sends all of it, whether numbers are restored or not, and a run
-- that took exactly these packets and returned Ok gave the raster of these values.
pub record LooksOfImages : Type 0 where
  pub at : (s : Setting) (rows : ℕ) (x : ℕ → ℕ → ℤ) (restore : Bool) (received : Numbers) → IsImageFor s rows x → SendsAll s →
      ReceivedIn (holds_after (texts_for s restore)) s.apid (output s rows x) received →
      (r c : ℕ) → r < block_count rows → c < block_count s.width → look (image_geometry s rows) received r c ≡ low_image s rows x r c
  pub given : (wish : DecodeWish) (start new : Outside) (took gave all : List ℕ) (done : DecodeDone) (s : Setting) (rows : ℕ) (x : ℕ → ℕ → ℤ) →
      IsLook wish start new took gave done → start.rest ≡ Some all → wish.apid ≡ s.apid → wish.book ≡ s.book → took ≡ output s rows x →
      IsImageFor s rows x → SendsAll s →
      gave ≡ raster_octets s.depth (block_count rows) (block_count s.width) (low_image s rows x)
