-- A raster that is encoded and decoded again. This project's own.
use Rattle.std.specs.Prelude.{◌≡◌, ◌⊎◌, ◌<◌, ◌≤◌, ◌*◌, ℕ, Bool, true, false, List, [], length, All, Some}
use Rattle.port_122.specs.Outside.{Outside, Exchange}
use Rattle.base_122.specs.declared.setting.Setting.{Setting}
use Rattle.base_122.specs.declared.wish.DecodeWish.{DecodeWish}
use Rattle.strip_decoder.specs.Images.{SendsAll}
use Rattle.stream_defs.specs.Output.{output}
use Rattle.strip_coder.specs.Rasters.{image_of}
use Rattle.strip_decoder.specs.Answers.{Asks}
use Rattle.camera_mux.specs.MuxOut.{mux_out}
use Rattle.camera_mux.specs.Records.{raster_of, setting_at}
use Rattle.bare_stream.specs.Bare.{bare}
use Rattle.bare_stream.specs.Decoded.{AsksBare}
use Rattle.strip122.specs.BareStreams.{DecodesStream, EncodedBare}
use Rattle.strip122.specs.Behaviours.{IsSteady}
use Rattle.strip122.specs.Books.{AfterBook}
use Rattle.strip122.specs.Decoding.{Decodes}
use Rattle.strip122.specs.Encoding.{EncodedWhole}
use Rattle.strip122.specs.Muxing.{MuxedWhole}

-- ---- packets

-- a wish for the image of a setting, with this number of rows, in this number of octets: it has the APID and the book, and its caps admit
-- the image
pub record Admits (wish : DecodeWish) (s : Setting) (rows size : ℕ) : Type 0 where
  pub apid : wish.apid ≡ s.apid
  pub book : wish.book ≡ s.book
  pub pixels : s.width * rows ≤ wish.pixels
  pub octets : size < wish.octets

-- the raster is given for these packets, with status 0 and without a note; or there is too little memory
abbrev pub GivesRaster : DecodeWish → (raster packets : List ℕ) → (old new : Outside) (status : ℕ) → Type 0
GivesRaster wish raster packets old new status =
    ((status ≡ 0) × Exchange old new packets raster [] (Asks wish old packets raster)) ⊎ (status ≡ 6)

-- Each run of `decode` that reads exactly these packets, with such a wish and without a failed call, gives the raster.
pub record IsReturned (s : Setting) (rows : ℕ) (raster packets : List ℕ) : Type 0 where
  pub back : (wish : DecodeWish) (old new : Outside) (status : ℕ) → Admits wish s rows (length packets) → old.rest ≡ Some packets → IsSteady old new →
      Decodes wish old new status → GivesRaster wish raster packets old new status

-- The packets of a raster were given. If nothing of it is omitted, they give exactly its octets again.
pub record EncodedClosed (s : Setting) (old new : Outside) : Type 0 where
  pub encoded : EncodedWhole s old new
  pub closed : SendsAll s → All (λ octet. octet < 256) encoded.took →
      IsReturned s encoded.rows encoded.took (output s encoded.rows (image_of s encoded.took))

-- the same for a setting whose book is the one that is read first, if the input has one
abbrev pub ClosedBy : (has_book : Bool) → Setting → Outside → Outside → Type 0
ClosedBy false s = EncodedClosed s
ClosedBy true s = AfterBook (λ book. EncodedClosed (record s { book = book }))

-- ---- several cameras

-- The packets of several cameras' rasters were given. Of each camera that omits nothing, the raster is decoded again from all of them.
pub record MuxClosed (settings : List Setting) (old new : Outside) : Type 0 where
  pub muxed : MuxedWhole settings old new
  pub closed : (camera : ℕ) → camera < length settings → SendsAll (setting_at settings camera) → All (λ octet. octet < 256) (raster_of camera muxed.records) →
      IsReturned (setting_at settings camera) (setting_at settings camera).rows (raster_of camera muxed.records) (mux_out settings muxed.records)

-- ---- a bare stream

-- a wish for the bare stream of a setting's image, in this number of octets: it has the book, and its caps admit the image
pub record AdmitsBare (wish : DecodeWish) (s : Setting) (size : ℕ) : Type 0 where
  pub book : wish.book ≡ s.book
  pub pixels : s.width * s.rows ≤ wish.pixels
  pub octets : size < wish.octets

-- the raster is given for this stream, with status 0 and without a note; or there is too little memory
abbrev pub GivesBareRaster : DecodeWish → (raster stream : List ℕ) → (old new : Outside) (status : ℕ) → Type 0
GivesBareRaster wish raster stream old new status =
    ((status ≡ 0) × Exchange old new stream raster [] (AsksBare wish old stream raster)) ⊎ (status ≡ 6)

-- each run of `bare-decode` that reads exactly this stream, with such a wish and without a failed call, gives the raster
pub record BareIsReturned (s : Setting) (raster stream : List ℕ) : Type 0 where
  pub back : (wish : DecodeWish) (old new : Outside) (status : ℕ) → AdmitsBare wish s (length stream) → old.rest ≡ Some stream → IsSteady old new →
      DecodesStream wish old new status → GivesBareRaster wish raster stream old new status

-- The bare stream of a raster was given. If nothing of it is omitted, it gives exactly its octets again.
pub record BareClosed (s : Setting) (old new : Outside) : Type 0 where
  pub encoded : EncodedBare s old new
  pub closed : SendsAll s → All (λ octet. octet < 256) encoded.took → BareIsReturned s encoded.took (bare s (image_of s encoded.took))
