-- A raster that is encoded and decoded again. This project's own.
use Rattle.std.specs.Prelude.{◌≡◌, ◌<◌, ◌≤◌, ◌*◌, ◌^◌, ℕ, List, [], length, take, slice_index, None, Result, Ok, Err, ⊤}
use Rattle.base_122.specs.Setting.{geometry_of}
use Rattle.base_122.specs.declared.setting.Setting.{Setting}
use Rattle.base_122.specs.declared.wish.DecodeWish.{DecodeWish}
use Rattle.strip_coder.specs.declared.encode.EncodeDone.{EncodeDone}
use Rattle.strip_decoder.specs.Images.{SendsAll}
use Rattle.strip122_c.specs.declared.decode.Made.{Made}
use Rattle.strip122_c.specs.declared.decode.DecodeRefusal.{DecodeRefusal}
use Rattle.strip122_c.specs.declared.decode.DecodeRefusal.TheVariants.{NoSegment, SmallRoom, TooManyPixels, LongInput, Memory}
use Rattle.strip122_c.specs.WholeEncoding.{HasPackets}
use Rattle.strip122_c.specs.WholeDecoding.{BringsBack}

-- these numbers are octets
pub record AreOctets (octets : List ℕ) : Type 0 where
  pub each : (i : ℕ) → i < length octets → slice_index octets i < 2 ^ 8

-- The result for the packets of a raster: all rows are there, none is missing, the packets can be read to their end, and if nothing was
-- omitted, the room begins with the raster, octet by octet. Otherwise the room is too small, the image has more pixels or its packets have
-- more octets than the wish allows, or there is no memory.
abbrev pub BringsRaster : DecodeWish → Setting → (raster packets room : List ℕ) → Result Made DecodeRefusal → Type 0
BringsRaster wish s raster packets room (Ok made) = (made.done.written ≡ s.rows) × (made.done.damage.missing ≡ []) × (made.done.framing ≡ None)
    × (SendsAll s → take (length raster) room ≡ raster)
BringsRaster wish s raster packets room (Err (SmallRoom g rows octets)) = (g ≡ geometry_of s) × (rows ≡ s.rows)
BringsRaster wish s raster packets room (Err (TooManyPixels pixels)) = (wish.pixels < pixels) × (pixels ≤ s.width * s.rows)
BringsRaster wish s raster packets room (Err LongInput) = wish.octets ≤ length packets
BringsRaster wish s raster packets room (Err Memory) = ⊤
BringsRaster wish s raster packets room (Err NoSegment) = ⊥

-- the same for what an encoder put into a room and a decoder with the same code book takes from there
pub record RastersAreReturned : Type 0 where
  pub back : (s : Setting) (wish : DecodeWish) (raster old new room : List ℕ) (done : EncodeDone) (result : Result Made DecodeRefusal) →
      wish.apid ≡ s.apid → wish.book ≡ s.book →
      AreOctets raster → HasPackets s raster old new done → BringsBack wish (take done.octets new) room result →
      BringsRaster wish s raster (take done.octets new) room result
