-- Losses are contained: no pixel outside the damaged rows depends on what was lost. This project's own.
use Rattle.std.specs.Prelude.{◌≡◌, ◌≤◌, ◌<◌, ℕ, ℤ, Bool, false, List, Some}
use Rattle.port_122.specs.Outside.{Outside}
use Rattle.base_122.specs.Ranges.{IsGeometryInRange}
use Rattle.base_122.specs.Setting.{image_geometry}
use Rattle.base_122.specs.Sizes.{block_count}
use Rattle.base_122.specs.declared.geometry.Geometry.{Geometry}
use Rattle.base_122.specs.declared.setting.Setting.{Setting}
use Rattle.base_122.specs.declared.wish.DecodeWish.{DecodeWish}
use Rattle.segment_defs.specs.TextWish.{text_wish}
use Rattle.stream_defs.specs.declared.range.RowRange.{RowRange}
use Rattle.stream_defs.specs.Begun.{begun_in, height}
use Rattle.stream_defs.specs.Damage.{damage, is_covered, ranges}
use Rattle.stream_defs.specs.Fates.{geometry_in}
use Rattle.stream_defs.specs.Output.{output}
use Rattle.stream_defs.specs.Picture.{picture, picture_octets, picture_with, whole_picture}
use Rattle.stream_defs.specs.Received.{ReceivedIn}
use Rattle.strip_decoder.specs.declared.ending.DecodeDone.{DecodeDone}
use Rattle.strip_decoder.specs.WalkAnswers.{IsPicture}
use Rattle.strip_decoder.specs.Runs.{Numbers, holds_after}
use Rattle.strip_decoder.specs.Images.{AreWith, AreSome, BeginsOne, ReceivesThose, reported, some_output, texts_for}

-- Two images with this number of rows and columns have the same pixels in each row that is in none of these ranges.
pub record SameOutside (rows width : ℕ) (ranges : List RowRange) (a b : ℕ → ℕ → ℤ) : Type 0 where
  pub at : (i j : ℕ) → i < rows → j < width → is_covered ranges i ≡ false → a i j ≡ b i j

-- Whatever numbers the lost blocks have, no pixel outside the damage changes. So if some packets of an image are read, each pixel outside
-- their damage is that of the picture for all of them, whether they report the height or not, and the kept heads reach no block row past
-- the image; and the damage is that of the segments with a missing packet.
pub record LossesContained : Type 0 where
  pub whatever : (g : Geometry) (received : Numbers) (numbers : ℕ → ℕ → ℤ) (n : ℕ) → IsGeometryInRange g → AreWith g received numbers n →
      SameOutside (height g n) g.width (damage g received n) (picture_with g numbers n) (picture g received n)
  pub geometry : (s : Setting) (rows : ℕ) (x : ℕ → ℕ → ℤ) (parts : ℕ → List ℕ) → AreSome s rows x parts → BeginsOne s rows parts →
      geometry_in s.apid (some_output s rows x parts) ≡ Some (reported s rows parts)
  pub begun : (s : Setting) (rows : ℕ) (x : ℕ → ℕ → ℤ) (parts : ℕ → List ℕ) → AreSome s rows x parts → BeginsOne s rows parts →
      begun_in s.apid (some_output s rows x parts) ≤ block_count rows
  pub those : (s : Setting) (rows : ℕ) (x : ℕ → ℕ → ℤ) (parts : ℕ → List ℕ) (restore : Bool) (received : Numbers) → AreSome s rows x parts →
      ReceivedIn (holds_after (texts_for s restore)) s.apid (some_output s rows x parts) received → ReceivesThose s rows x parts received
  pub sublists : (s : Setting) (rows : ℕ) (x : ℕ → ℕ → ℤ) (parts : ℕ → List ℕ) (restore : Bool) (received whole : Numbers) (n : ℕ) →
      AreSome s rows x parts → n ≤ block_count rows → ReceivedIn (holds_after (texts_for s restore)) s.apid (some_output s rows x parts) received →
      ReceivedIn (holds_after (texts_for s restore)) s.apid (output s rows x) whole →
      SameOutside (height (reported s rows parts) n) s.width (damage (reported s rows parts) received n)
      (picture (reported s rows parts) received n) (whole_picture (image_geometry s rows) whole)

-- the ranges of rows that a decoder's answer reports as damaged
abbrev pub known_damage : DecodeDone → List RowRange
known_damage done = ranges done.damage.rows done.damage.missing

-- What is given is the picture of these segments, and whatever numbers the blocks of others have, no pixel outside the damage changes.
pub record GivesContained (wish : DecodeWish) (took gave : List ℕ) (done : DecodeDone) : Type 0 where
  pub received : Numbers
  pub received_is : ReceivedIn (holds_after (text_wish wish)) wish.apid took received
  pub gave_is : gave ≡ picture_octets done.geometry received (begun_in wish.apid took)
  pub whatever : (numbers : ℕ → ℕ → ℤ) → AreWith done.geometry received numbers (begun_in wish.apid took) →
      SameOutside done.written done.geometry.width (known_damage done) (picture_with done.geometry numbers (begun_in wish.apid took))
      (picture done.geometry received (begun_in wish.apid took))

-- What is given is the picture of some packets of an image, and each pixel outside the damage is that of the picture for all of them, of
-- which the numbers are restored as well if these are.
pub record GivesAlike (restore : Bool) (s : Setting) (rows : ℕ) (x : ℕ → ℕ → ℤ) (parts : ℕ → List ℕ) (gave : List ℕ) (done : DecodeDone) : Type 0 where
  pub geometry : done.geometry ≡ reported s rows parts
  pub received : Numbers
  pub received_is : ReceivedIn (holds_after (texts_for s restore)) s.apid (some_output s rows x parts) received
  pub those : ReceivesThose s rows x parts received
  pub gave_is : gave ≡ picture_octets done.geometry received (begun_in s.apid (some_output s rows x parts))
  pub same : (whole : Numbers) → ReceivedIn (holds_after (texts_for s restore)) s.apid (output s rows x) whole →
      SameOutside done.written s.width (known_damage done) (picture done.geometry received (begun_in s.apid (some_output s rows x parts)))
      (whole_picture (image_geometry s rows) whole)

-- The same holds if a decoder gave a whole picture, and if it took some packets of an image, of which one begins a segment.
pub record DecodedContained : Type 0 where
  pub decoded : (wish : DecodeWish) (start new : Outside) (took gave all : List ℕ) (done : DecodeDone) → IsPicture wish start new took gave done →
      start.rest ≡ Some all → GivesContained wish took gave done
  pub sublists : (wish : DecodeWish) (start new : Outside) (took gave all : List ℕ) (done : DecodeDone) (s : Setting) (rows : ℕ) (x : ℕ → ℕ → ℤ)
      (parts : ℕ → List ℕ) →
      IsPicture wish start new took gave done → start.rest ≡ Some all → wish.apid ≡ s.apid → wish.book ≡ s.book → took ≡ some_output s rows x parts →
      AreSome s rows x parts → BeginsOne s rows parts →
      GivesAlike wish.restore s rows x parts gave done
