-- What a picture that `decode` gave shows, and what a look shows. This project's own.
use Rattle.std.specs.Prelude.{◌≡◌, ℕ, ℤ, List, None, Some}
use Rattle.port_122.specs.Outside.{Outside, Exchange}
use Rattle.base_122.specs.Sizes.{block_count}
use Rattle.base_122.specs.declared.setting.Setting.{Setting}
use Rattle.base_122.specs.declared.wish.DecodeWish.{DecodeWish}
use Rattle.raster_rows.specs.Pixels.{raster_octets}
use Rattle.segment_defs.specs.TextWish.{text_wish, unrestored}
use Rattle.stream_defs.specs.Begun.{begun_in}
use Rattle.stream_defs.specs.Fates.{geometry_in}
use Rattle.stream_defs.specs.Output.{output}
use Rattle.stream_defs.specs.Picture.{picture_octets}
use Rattle.stream_defs.specs.Received.{ReceivedIn}
use Rattle.strip_decoder.specs.declared.ending.DecodeDone.{DecodeDone}
use Rattle.strip_decoder.specs.Answers.{Asks}
use Rattle.strip_decoder.specs.Runs.{Numbers, holds_after}
use Rattle.strip_decoder.specs.Walks.{IsDamageOf}
use Rattle.camera_mux.specs.Picked.{picked}
use Rattle.strip_decoder.specs.Images.{some_output, IsImageFor, AreSome, BeginsOne, SendsAll}
use Rattle.strip_decoder.specs.Containment.{GivesContained, GivesAlike}
use Rattle.strip_decoder.specs.RoundTrip.{GivesBack}
use Rattle.quick_look.specs.Containment.{GivesInRects, GivesAlikeInRects}
use Rattle.quick_look.specs.Looks.{LookAsks, IsLook}
use Rattle.quick_look.specs.LookLaws.{low_image}

-- What is given is the picture of the packets of one APID alone, with their geometry and their damage, whatever other packets lie
-- between them.
pub record GivesOwn (wish : DecodeWish) (took gave : List ℕ) (done : DecodeDone) : Type 0 where
  pub geometry : geometry_in wish.apid (picked took wish.apid None) ≡ Some done.geometry
  pub received : Numbers
  pub received_is : ReceivedIn (holds_after (text_wish wish)) wish.apid (picked took wish.apid None) received
  pub gave_is : gave ≡ picture_octets done.geometry received (begun_in wish.apid (picked took wish.apid None))
  pub damage : IsDamageOf done.geometry received (begun_in wish.apid (picked took wish.apid None)) done.damage

-- A picture was given: that of the packets of the APID alone. Its damage is the same whether numbers are restored or not. Whatever numbers
-- the lost blocks have, no pixel of it outside the damaged rows changes. If some packets of an image were taken, of which one begins a
-- segment, each such pixel is that of the picture for all of them, whether they report its height or not; the numbers of both are restored
-- if that is wished. The same holds of each pixel outside the rectangles that the missing blocks reach. If all packets were taken, the status
-- is 0, nothing is missing, and the raster of an image that was sent whole is given, whether numbers are restored or not. The image was
-- written with the book of the wish.
pub record GavePicture (wish : DecodeWish) (old new : Outside) (status : ℕ) : Type 0 where
  pub done : DecodeDone
  pub took : List ℕ
  pub gave : List ℕ
  pub wrote : List ℕ
  pub since : Exchange old new took gave wrote (Asks wish old took gave)
  pub own : (all : List ℕ) → old.rest ≡ Some all → GivesOwn wish took gave done
  pub damage : (all : List ℕ) → old.rest ≡ Some all → (received : Numbers) → ReceivedIn (holds_after (unrestored wish.book)) wish.apid took received →
      IsDamageOf done.geometry received (begun_in wish.apid took) done.damage
  pub contained : (all : List ℕ) → old.rest ≡ Some all → GivesContained wish took gave done
  pub alike : (all : List ℕ) → old.rest ≡ Some all → (s : Setting) (rows : ℕ) (x : ℕ → ℕ → ℤ) (parts : ℕ → List ℕ) → wish.apid ≡ s.apid →
      wish.book ≡ s.book → took ≡ some_output s rows x parts →
      AreSome s rows x parts → BeginsOne s rows parts → GivesAlike wish.restore s rows x parts gave done
  pub in_rects : (all : List ℕ) → old.rest ≡ Some all → GivesInRects wish took gave done
  pub alike_in_rects : (all : List ℕ) → old.rest ≡ Some all → (s : Setting) (rows : ℕ) (x : ℕ → ℕ → ℤ) (parts : ℕ → List ℕ) → wish.apid ≡ s.apid →
      wish.book ≡ s.book → took ≡ some_output s rows x parts →
      AreSome s rows x parts → BeginsOne s rows parts → GivesAlikeInRects wish.restore s rows x parts gave done
  pub back : (all : List ℕ) → old.rest ≡ Some all → (s : Setting) (rows : ℕ) (x : ℕ → ℕ → ℤ) → wish.apid ≡ s.apid → wish.book ≡ s.book →
      took ≡ output s rows x → IsImageFor s rows x →
      (status ≡ 0) × GivesBack s rows x gave done

-- A look was given. If all packets of an image were taken that was sent whole, with the book of the wish, its values are the coefficients
-- of LL3 of the image, each clamped to the range of a pixel, whether numbers are restored or not.
pub record GaveLook (wish : DecodeWish) (old new : Outside) : Type 0 where
  pub done : DecodeDone
  pub took : List ℕ
  pub gave : List ℕ
  pub wrote : List ℕ
  pub since : Exchange old new took gave wrote (LookAsks wish old took gave)
  pub look : IsLook wish old new took gave done
  pub of_image : (all : List ℕ) → old.rest ≡ Some all → (s : Setting) (rows : ℕ) (x : ℕ → ℕ → ℤ) → wish.apid ≡ s.apid → wish.book ≡ s.book →
      took ≡ output s rows x → IsImageFor s rows x → SendsAll s →
      gave ≡ raster_octets s.depth (block_count rows) (block_count s.width) (low_image s rows x)
