-- The round trip: what a decoder gives for a bare stream, and for that of an image. (This project's own.)
use Rattle.std.specs.Prelude.{◌≡◌, ◌≤◌, ◌<◌, ◌*◌, ℕ, ℤ, List, length, Some, Result, Ok, Err}
use Rattle.port_122.specs.Outside.{Outside}
use Rattle.base_122.specs.declared.geometry.Geometry.{Geometry}
use Rattle.base_122.specs.declared.setting.Setting.{Setting}
use Rattle.base_122.specs.declared.wish.DecodeWish.{DecodeWish}
use Rattle.segment_defs.specs.TextWish.{text_wish}
use Rattle.raster_rows.specs.Pixels.{raster_octets}
use Rattle.strip_decoder.specs.Images.{SendsAll}
use Rattle.bare_stream.specs.declared.fault.BareFault.{BareFault}
use Rattle.bare_stream.specs.declared.fault.BareFault.TheVariants.{ReadFault, WriteFault, Memory}
use Rattle.bare_stream.specs.Bare.{bare}
use Rattle.bare_stream.specs.BareStream.{BareStream}
use Rattle.bare_stream.specs.Decoded.{DecodesBare, rows_of}
use Rattle.bare_stream.specs.Images.{IsBareImage, bare_geometry, image_segments}
use Rattle.bare_stream.specs.Pictures.{all_rows}
use Rattle.bare_stream.specs.StreamRead.{reading, answer_for}

-- ---- any bare stream

-- an input that is these octets is within the caps, if they are a stream of this geometry
pub record IsWithinCaps (wish : DecodeWish) (octets : List ℕ) (g : Geometry) : Type 0 where
  pub few : g.width * g.rows ≤ wish.pixels
  pub short : length octets < wish.octets

-- the stream was read whole and all its rows given, or the port or the memory failed
abbrev pub ReadsWhole : Geometry → List (List (List ℤ)) → (gave : List ℕ) → Result Geometry BareFault → Type 0
ReadsWhole g w gave (Ok found) = (found ≡ g) × (gave ≡ all_rows g w)
ReadsWhole g w gave (Err ReadFault) = Unit {0}
ReadsWhole g w gave (Err WriteFault) = Unit {0}
ReadsWhole g w gave (Err Memory) = Unit {0}
ReadsWhole g w gave (Err other) = ⊥

-- A bare stream within the caps, read with the book and as the numbers that are wished, has its geometry as the answer. So it is read whole: it isn't
-- refused.
pub record StreamsAreRead : Type 0 where
  pub answer : (wish : DecodeWish) (octets : List ℕ) (g : Geometry) (w : List (List (List ℤ))) → BareStream (text_wish wish) octets g w →
      IsWithinCaps wish octets g → answer_for wish octets ≡ Ok g
  pub blocks : (wish : DecodeWish) (octets : List ℕ) (g : Geometry) (w : List (List (List ℤ))) → BareStream (text_wish wish) octets g w →
      IsWithinCaps wish octets g → (reading wish octets).segments.blocks ≡ w
  -- whichever stream is read whole, its segments determine all rows of its picture
  pub rows : (wish : DecodeWish) (input : List ℕ) (g : Geometry) → answer_for wish input ≡ Ok g → rows_of (reading wish input).segments
      ≡ all_rows g (reading wish input).segments.blocks
  pub read : (wish : DecodeWish) (old new : Outside) (result : Result Geometry BareFault) (octets : List ℕ) (g : Geometry) (w : List (List (List ℤ)))
      (run : DecodesBare wish old new result) →
      BareStream (text_wish wish) octets g w → old.rest ≡ Some octets → IsWithinCaps wish octets g → ReadsWhole g w run.gave result

-- ---- that of an image

-- A decoder found the size of the image; if nothing is missing from the stream, it gave the image's raster.
pub record GivesImage (s : Setting) (x : ℕ → ℕ → ℤ) (gave : List ℕ) (g : Geometry) : Type 0 where
  pub geometry : g ≡ bare_geometry s
  pub same : SendsAll s → gave ≡ raster_octets s.depth s.rows s.width x

-- or the port or the memory failed
abbrev pub AnswersImage : Setting → (ℕ → ℕ → ℤ) → (gave : List ℕ) → Result Geometry BareFault → Type 0
AnswersImage s x gave (Ok g) = GivesImage s x gave g
AnswersImage s x gave (Err ReadFault) = Unit {0}
AnswersImage s x gave (Err WriteFault) = Unit {0}
AnswersImage s x gave (Err Memory) = Unit {0}
AnswersImage s x gave (Err other) = ⊥

-- The picture of an image's segments is the image. So a decoder with the book of an image, which may restore numbers, and which took the
-- octets that are written for the image, and nothing else, gives its raster, if nothing is missing from them; and if an input is these
-- octets, within the caps, this holds unless the port or the memory fails.
pub record BareRoundTrip : Type 0 where
  pub picture : (s : Setting) (x : ℕ → ℕ → ℤ) → IsBareImage s x → all_rows (bare_geometry s) (image_segments s x) ≡ raster_octets s.depth s.rows s.width x
  pub decoded : (wish : DecodeWish) (old new : Outside) (g : Geometry) (left : List ℕ) (s : Setting) (x : ℕ → ℕ → ℤ) (run : DecodesBare wish old new (Ok g)) →
      old.rest ≡ Some left → run.took ≡ bare s x → wish.book ≡ s.book → IsBareImage s x → GivesImage s x run.gave g
  pub answered : (wish : DecodeWish) (old new : Outside) (result : Result Geometry BareFault) (s : Setting) (x : ℕ → ℕ → ℤ)
      (run : DecodesBare wish old new result) →
      old.rest ≡ Some (bare s x) → wish.book ≡ s.book → IsBareImage s x → IsWithinCaps wish (bare s x) (bare_geometry s) → AnswersImage s x run.gave result
