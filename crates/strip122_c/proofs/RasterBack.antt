-- A raster that is encoded and decoded again.
use Rattle.std.proofs.Common.{◌≡◌, ◌≤◌, ◌<◌, ◌*◌, ◌∙◌, ℕ, ℤ, Bool, List, ◌++◌, length, take, drop, sym, ap, subst, Result, Ok, Err}
use Rattle.std.proofs.Math.Seq.{take-append_seam}
use Rattle.std.proofs.lemmas.List.Elements.{All-from_get_or}
use Rattle.base_122.specs.declared.setting.Setting.{Setting}
use Rattle.base_122.specs.declared.wish.DecodeWish.{DecodeWish}
use Rattle.raster_rows.specs.Pixels.{pixel_size, raster_pixel, raster_octets}
use Rattle.stream_defs.specs.Output.{output}
use Rattle.strip_coder.specs.declared.encode.EncodeDone.{EncodeDone}
use Rattle.strip_coder.specs.Rasters.{image_of}
use Rattle.strip_decoder.proofs.RasterAgain.{raster-again}
use Rattle.strip122_c.specs.declared.decode.Made.{Made}
use Rattle.strip122_c.specs.declared.decode.DecodeRefusal.{DecodeRefusal}
use Rattle.strip122_c.specs.declared.decode.DecodeRefusal.TheVariants.{NoSegment, SmallRoom, TooManyPixels, LongInput, Memory}
use Rattle.strip122_c.specs.Returned.{AreOctets, BringsRaster}
use Rattle.strip122_c.specs.WholeEncoding.{HasPackets}
use Rattle.strip122_c.specs.WholeDecoding.{BringsBack}

-- the octets of a raster's image are the raster's own
raster-same : (depth : ℕ) (signed : Bool) (rows width : ℕ) (raster : List ℕ) → AreOctets raster → length raster ≡ rows * (width * pixel_size depth) →
    raster_octets depth rows width (raster_pixel depth signed width raster) ≡ raster
raster-same depth signed rows width raster are size =
    raster-again depth signed rows width raster (All-from_get_or (λ octet. octet < 256) raster 0 (λ i lt. are.each i lt)) size

-- ---- there and back

packets_are : (s : Setting) (raster old new : List ℕ) (done : EncodeDone) → HasPackets s raster old new done →
    take done.octets new ≡ output s s.rows (image_of s raster)
packets_are s raster old new done has =
    ap (take done.octets) has.room ∙ ap (λ n. take n (output s s.rows (image_of s raster) ++ drop done.octets old)) has.done_for.octets
    ∙ take-append_seam (output s s.rows (image_of s raster)) (drop done.octets old)

pub is_returned : (s : Setting) (wish : DecodeWish) (raster old new room : List ℕ) (done : EncodeDone) (result : Result Made DecodeRefusal) →
    wish.apid ≡ s.apid → wish.book ≡ s.book →
    AreOctets raster → HasPackets s raster old new done → BringsBack wish (take done.octets new) room result →
    BringsRaster wish s raster (take done.octets new) room result
is_returned s wish raster old new room done (Ok made) mine own are has back =
    let brings = back s s.rows (image_of s raster) mine own (packets_are s raster old new done has) has.image in
    let gives = brings.1 in
    let size : length raster ≡ made.octets = has.took.whole ∙ sym brings.0 in (
      gives.written,
      gives.missing,
      gives.framing_is,
      λ all. ap (λ n. take n room) size ∙ gives.same all ∙ raster-same s.depth s.signed s.rows s.width raster are has.took.whole,
    )
is_returned s wish raster old new room done (Err NoSegment) mine own are has back =
    back s s.rows (image_of s raster) mine own (packets_are s raster old new done has) has.image
is_returned s wish raster old new room done (Err (SmallRoom g rows octets)) mine own are has back =
    back s s.rows (image_of s raster) mine own (packets_are s raster old new done has) has.image
is_returned s wish raster old new room done (Err (TooManyPixels pixels)) mine own are has back =
    back s s.rows (image_of s raster) mine own (packets_are s raster old new done has) has.image
is_returned s wish raster old new room done (Err LongInput) mine own are has back =
    let packets = packets_are s raster old new done has in
    subst (λ octets. wish.octets ≤ length octets) (sym packets) (back s s.rows (image_of s raster) mine own packets has.image)
is_returned s wish raster old new room done (Err Memory) mine own are has back = tt
