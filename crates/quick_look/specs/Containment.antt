-- Losses are contained in rectangles: no pixel outside them depends on missing blocks. This project's own.
use Rattle.std.specs.Prelude.{◌≡◌, ◌≤◌, ℕ, ℤ, Bool, List, Some}
use Rattle.port_122.specs.Outside.{Outside}
use Rattle.base_122.specs.Ranges.{IsGeometryInRange}
use Rattle.base_122.specs.Setting.{image_geometry}
use Rattle.base_122.specs.Sizes.{block_count}
use Rattle.base_122.specs.declared.geometry.Geometry.{Geometry}
use Rattle.base_122.specs.declared.setting.Setting.{Setting}
use Rattle.base_122.specs.declared.wish.DecodeWish.{DecodeWish}
use Rattle.segment_defs.specs.TextWish.{text_wish}
use Rattle.stream_defs.specs.Begun.{begun_in, height}
use Rattle.stream_defs.specs.Output.{output}
use Rattle.stream_defs.specs.Picture.{picture, picture_octets, picture_with, whole_picture}
use Rattle.stream_defs.specs.Received.{ReceivedIn}
use Rattle.quick_look.specs.Rects.{rects}
use Rattle.quick_look.specs.RectLaws.{SameOutsideRects}
use Rattle.strip_decoder.specs.declared.ending.DecodeDone.{DecodeDone}
use Rattle.strip_decoder.specs.WalkAnswers.{IsPicture}
use Rattle.strip_decoder.specs.Images.{texts_for, AreWith, AreSome, BeginsOne, reported, some_output}
use Rattle.strip_decoder.specs.Runs.{Numbers, holds_after}

-- What is given is the picture of these segments, and whatever numbers the blocks of others have, no pixel outside their rectangles changes.
pub record GivesInRects (wish : DecodeWish) (took gave : List ℕ) (done : DecodeDone) : Type 0 where
  pub received : Numbers
  pub received_is : ReceivedIn (holds_after (text_wish wish)) wish.apid took received
  pub gave_is : gave ≡ picture_octets done.geometry received (begun_in wish.apid took)
  pub whatever : (numbers : ℕ → ℕ → ℤ) → AreWith done.geometry received numbers (begun_in wish.apid took) →
      SameOutsideRects done.written done.geometry.width (rects done.geometry received (begun_in wish.apid took))
      (picture_with done.geometry numbers (begun_in wish.apid took)) (picture done.geometry received (begun_in wish.apid took))

-- What is given is the picture of some packets of an image, and each pixel outside the rectangles is that of the picture for all of them, of
-- which the numbers are restored as well if these are.
pub record GivesAlikeInRects (restore : Bool) (s : Setting) (rows : ℕ) (x : ℕ → ℕ → ℤ) (parts : ℕ → List ℕ) (gave : List ℕ) (done : DecodeDone) : Type 0 where
  pub geometry : done.geometry ≡ reported s rows parts
  pub received : Numbers
  pub received_is : ReceivedIn (holds_after (texts_for s restore)) s.apid (some_output s rows x parts) received
  pub gave_is : gave ≡ picture_octets done.geometry received (begun_in s.apid (some_output s rows x parts))
  pub same : (whole : Numbers) → ReceivedIn (holds_after (texts_for s restore)) s.apid (output s rows x) whole →
      SameOutsideRects done.written s.width (rects done.geometry received (begun_in s.apid (some_output s rows x parts)))
      (picture done.geometry received (begun_in s.apid (some_output s rows x parts)))
      (whole_picture (image_geometry s rows) whole)

-- Whatever numbers the missing blocks have, no pixel outside the rectangles changes. So if some packets of an image are read, each pixel
-- outside them is that of the picture for all of them. The same holds for a picture that a decoder gave whole, and if it took some packets
-- of an image, of which one begins a segment.
pub record LossesStay : Type 0 where
  pub whatever : (g : Geometry) (received : Numbers) (numbers : ℕ → ℕ → ℤ) (n : ℕ) → IsGeometryInRange g → AreWith g received numbers n →
      SameOutsideRects (height g n) g.width (rects g received n) (picture_with g numbers n) (picture g received n)
  pub sublists : (s : Setting) (rows : ℕ) (x : ℕ → ℕ → ℤ) (parts : ℕ → List ℕ) (restore : Bool) (received whole : Numbers) (n : ℕ) →
      AreSome s rows x parts → n ≤ block_count rows → ReceivedIn (holds_after (texts_for s restore)) s.apid (some_output s rows x parts) received →
      ReceivedIn (holds_after (texts_for s restore)) s.apid (output s rows x) whole →
      SameOutsideRects (height (reported s rows parts) n) s.width (rects (reported s rows parts) received n)
      (picture (reported s rows parts) received n) (whole_picture (image_geometry s rows) whole)
  pub decoded : (wish : DecodeWish) (start new : Outside) (took gave all : List ℕ) (done : DecodeDone) → IsPicture wish start new took gave done →
      start.rest ≡ Some all → GivesInRects wish took gave done
  pub some_decoded : (wish : DecodeWish) (start new : Outside) (took gave all : List ℕ) (done : DecodeDone) (s : Setting) (rows : ℕ) (x : ℕ → ℕ → ℤ)
      (parts : ℕ → List ℕ) →
      IsPicture wish start new took gave done → start.rest ≡ Some all → wish.apid ≡ s.apid → wish.book ≡ s.book → took ≡ some_output s rows x parts →
      AreSome s rows x parts → BeginsOne s rows parts →
      GivesAlikeInRects wish.restore s rows x parts gave done
