-- The round trip: what is given if all packets of an image are decoded. This project's own.
use Rattle.std.specs.Prelude.{◌≡◌, ◌<◌, ℕ, ℤ, Bool, List, [], None, Some}
use Rattle.port_122.specs.Outside.{Outside}
use Rattle.base_122.specs.Setting.{image_geometry}
use Rattle.base_122.specs.declared.setting.Setting.{Setting}
use Rattle.base_122.specs.declared.wish.DecodeWish.{DecodeWish}
use Rattle.raster_rows.specs.Pixels.{raster_octets}
use Rattle.stream_defs.specs.Output.{output}
use Rattle.stream_defs.specs.Picture.{whole_picture, whole_octets}
use Rattle.stream_defs.specs.Received.{ReceivedIn}
use Rattle.strip_decoder.specs.declared.ending.DecodeDone.{DecodeDone}
use Rattle.strip_decoder.specs.WalkAnswers.{IsPicture}
use Rattle.strip_decoder.specs.Images.{texts_for, IsImageFor, ArrivesWhole, SendsAll}
use Rattle.strip_decoder.specs.Runs.{Numbers, holds_after}

-- the picture of these segments is the image
pub record ArrivesSame (s : Setting) (rows : ℕ) (x : ℕ → ℕ → ℤ) (received : Numbers) : Type 0 where
  pub at : (i j : ℕ) → i < rows → j < s.width → whole_picture (image_geometry s rows) received i j ≡ x i j
  pub octets : whole_octets (image_geometry s rows) received ≡ raster_octets s.depth rows s.width x

-- A decoder found the size of the image and nothing missing, wrote all its rows, and read the packets to their end; if nothing was omitted,
-- it gave the image's raster.
pub record GivesBack (s : Setting) (rows : ℕ) (x : ℕ → ℕ → ℤ) (gave : List ℕ) (done : DecodeDone) : Type 0 where
  pub geometry : done.geometry ≡ image_geometry s rows
  pub written : done.written ≡ rows
  pub missing : done.damage.missing ≡ []
  pub framing_is : done.framing ≡ None
  pub same : SendsAll s → gave ≡ raster_octets s.depth rows s.width x

-- All packets of an image, in order, give it whole, whether they report its height first or last, and if nothing was omitted they give
-- exactly its pixels, whether numbers are restored or not. The same holds if a decoder took them and gave a whole picture.
pub record RoundTrip : Type 0 where
  pub whole : (s : Setting) (rows : ℕ) (x : ℕ → ℕ → ℤ) (restore : Bool) (received : Numbers) → IsImageFor s rows x →
      ReceivedIn (holds_after (texts_for s restore)) s.apid (output s rows x) received → ArrivesWhole s rows x received
  pub same : (s : Setting) (rows : ℕ) (x : ℕ → ℕ → ℤ) (restore : Bool) (received : Numbers) → IsImageFor s rows x → SendsAll s →
      ReceivedIn (holds_after (texts_for s restore)) s.apid (output s rows x) received →
      ArrivesSame s rows x received
  pub decoded : (wish : DecodeWish) (start new : Outside) (took gave all : List ℕ) (done : DecodeDone) (s : Setting) (rows : ℕ) (x : ℕ → ℕ → ℤ) →
      IsPicture wish start new took gave done → start.rest ≡ Some all → wish.apid ≡ s.apid → wish.book ≡ s.book → took ≡ output s rows x →
      IsImageFor s rows x → GivesBack s rows x gave done
