-- The answer of a walk, whatever its sink has given. This project's own.
use Rattle.std.specs.Prelude.{◌≡◌, ℕ, List, [], Bool, true, false, Some}
use Rattle.port_122.specs.Outside.{Outside}
use Rattle.base_122.specs.Ranges.{IsGeometryInRange}
use Rattle.base_122.specs.declared.geometry.Geometry.{Geometry}
use Rattle.base_122.specs.declared.wish.DecodeWish.{DecodeWish}
use Rattle.packet_defs.specs.Streams.{framing}
use Rattle.stream_defs.specs.Begun.{HasFewPixels, begun_in, height}
use Rattle.stream_defs.specs.Fates.{geometry_in}
use Rattle.stream_defs.specs.Picture.{picture_octets}
use Rattle.stream_defs.specs.Received.{ReceivedIn}
use Rattle.packet_assembly.specs.Readings.{IsReadOut}
use Rattle.segment_defs.specs.TextWish.{TextWish, text_wish}
use Rattle.strip_decoder.specs.Runs.{holds_after, Numbers, AsksUnanswered}
use Rattle.strip_decoder.specs.Walks.{IsDamageOf}
use Rattle.strip_decoder.specs.declared.ending.DecodeDone.{DecodeDone}

-- what is given of a whole picture, if the kept heads reach n block rows
abbrev pub octets_of : (gives : Bool) → Geometry → Numbers → (n : ℕ) → List ℕ
octets_of true g received n = picture_octets g received n
octets_of false g received n = []

-- What is given is the picture of the segments that are received in the octets that were taken, if it is asked for. Its damage is
-- that of the missing block rows, and the octets were read to the end, or can't be read on for this reason.
pub record PictureBy (gives : Bool) (texts : TextWish) (wish : DecodeWish) (start new : Outside) (took gave : List ℕ) (done : DecodeDone) : Type 0 where
  pub geometry : geometry_in wish.apid took ≡ Some done.geometry
  pub range : IsGeometryInRange done.geometry
  pub few : HasFewPixels wish.pixels wish.apid took
  pub framing_is : done.framing ≡ framing took
  pub out : IsReadOut wish.octets new took
  pub written : done.written ≡ height done.geometry (begun_in wish.apid took)
  pub rows : done.damage.rows ≡ done.written
  pub if_known : (all : List ℕ) → start.rest ≡ Some all → (received : Numbers) × ReceivedIn (holds_after texts) wish.apid took received
      × (gave ≡ octets_of gives done.geometry received (begun_in wish.apid took)) × IsDamageOf done.geometry received (begun_in wish.apid took) done.damage

abbrev pub IsPicture : (wish : DecodeWish) (start new : Outside) (took gave : List ℕ) (done : DecodeDone) → Type 0
IsPicture wish = PictureBy true (text_wish wish) wish

-- ---- while packets are read

-- A read call with i octets taken, which do not decide the answer, and none given.
abbrev pub AsksSilent : DecodeWish → (took : List ℕ) → ℕ → ℕ → Type 0
AsksSilent wish took i j = (j ≡ 0) × AsksUnanswered wish.apid wish.octets wish.pixels took i j
