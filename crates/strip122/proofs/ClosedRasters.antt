-- A raster that is encoded and decoded again.
use Rattle.std.proofs.Common.{◌≡◌, ◌≢◌, ◌≤◌, ◌<◌, ◌-◌, ◌*◌, ◌∙◌, ℕ, ℤ, max, cond, List, [], length, All, refl, sym, ap, subst, inl, inr, IsTrue, None, Some}
use Rattle.std.specs.Int.{div_ceil}
use Rattle.std.proofs.lemmas.Bool.{ne_eqb}
use Rattle.plane_defs.specs.Codes.{is_book_sound}
use Rattle.port_122.specs.Outside.{Outside, Exchange}
use Rattle.base_122.specs.Ranges.{IsInRange, rows_range}
use Rattle.base_122.specs.Setting.{image_geometry}
use Rattle.base_122.specs.Sizes.{block_count}
use Rattle.base_122.specs.declared.geometry.Geometry.{Geometry}
use Rattle.base_122.specs.declared.setting.Setting.{Setting}
use Rattle.base_122.specs.declared.wish.DecodeWish.{DecodeWish}
use Rattle.packet_defs.specs.Streams.{framing, framing_at, left_over, place_after}
use Rattle.packet_defs.proofs.Equations.{framing_at-is}
use Rattle.raster_rows.specs.Pixels.{raster_octets}
use Rattle.strip_decoder.proofs.RasterAgain.{raster-again}
use Rattle.segment_code.specs.ShortTexts.{TextsAreShort}
use Rattle.stream_defs.specs.Begun.{HasFewPixels, begun_in, end_of, rows_reached}
use Rattle.stream_defs.specs.Damage.{whole_missing}
use Rattle.stream_defs.specs.Fates.{geometry_in, kept_in}
use Rattle.stream_defs.specs.KnownHeights.{KnownHeights}
use Rattle.stream_defs.specs.Output.{output}
use Rattle.stream_defs.specs.Picture.{picture_octets}
use Rattle.stream_defs.specs.Received.{AreReceived, ReceivedIn}
use Rattle.stream_defs.proofs.PlacedLaws.{within_not}
use Rattle.strip_coder.specs.Answers.{TookRaster}
use Rattle.strip_coder.specs.Rasters.{image_of}
use Rattle.strip_decoder.specs.WalkAnswers.{IsPicture}
use Rattle.strip_decoder.specs.Images.{texts_for, IsImageFor, SendsAll}
use Rattle.strip_decoder.specs.Runs.{Numbers, holds_after}
use Rattle.strip_decoder.specs.declared.ending.DecodeDone.{DecodeDone}
use Rattle.strip_decoder.proofs.WholeImages.{none_left, geometry_reported}
use Rattle.strip_decoder.specs.Answers.{Answers, Asks}
use Rattle.strip_decoder.specs.RoundTrip.{RoundTrip}
use Rattle.strip122.specs.Behaviours.{IsSteady}
use Rattle.strip122.specs.Closed.{Admits, GivesRaster, IsReturned, EncodedClosed}
use Rattle.strip122.specs.Decoding.{Decodes, DecodeCauses, reads_picture}
use Rattle.strip122.specs.Outcomes.{DecodedWhole, DecodedPart, picture_outcomes}
use Rattle.strip122.specs.Encoding.{EncodedWhole}
use Rattle.strip122.proofs.Behaviours.{Completes, completes}
use Rattle.strip122.proofs.Decoded.{decode_says}
use Rattle.strip122.proofs.GavePictures.{none_damaged}
use Rattle.strip122.proofs.PacketInputs.{picture_law}
use Rattle.strip122.proofs.TrialsDecoded.{took_all}
use Rattle.strip122.proofs.TrialsDone.{raster_pixels}

-- a known height is reached whatever the headers reach
rows_known : (g : Geometry) (ended : ℕ) → g.rows ≢ 0 → rows_reached g ended ≡ g.rows
rows_known g ended some = ap (λ b. cond b (max rows_range.least (8 * div_ceil ended (block_count g.width) - 7)) g.rows) (ne_eqb g.rows 0 some)

-- A stream of whole packets of which a reader for the image's APID keeps the packets of the image.
pub record Carries (s : Setting) (rows : ℕ) (x : ℕ → ℕ → ℤ) (stream : List ℕ) : Type 0 where
  pub left : left_over stream ≡ []
  pub kept : kept_in s.apid stream ≡ kept_in s.apid (output s rows x)
  pub geometry : geometry_in s.apid stream ≡ Some (image_geometry s rows)

-- the packets of the image are such a stream
own_carried : TextsAreShort → (s : Setting) (rows : ℕ) (x : ℕ → ℕ → ℤ) → IsImageFor s rows x → Carries s rows x (output s rows x)
own_carried short s rows x image = record { left = none_left short s rows x image; kept = refl; geometry = geometry_reported short s rows x image }

module _ (heights : KnownHeights) (trip : RoundTrip) (s : Setting) (rows : ℕ) (x : ℕ → ℕ → ℤ) (image : IsImageFor s rows x) (stream : List ℕ)
    (carries : Carries s rows x stream) where
  abbrev size : Geometry
  size = image_geometry s rows

  some_rows : rows ≢ 0
  some_rows = within_not rows image.height.0

  module _ (wish : DecodeWish) (old new : Outside) (admits : Admits wish s rows (length stream)) (if_known : old.rest ≡ Some stream) where
    geometry_there : geometry_in wish.apid stream ≡ Some size
    geometry_there = ap (λ apid. geometry_in apid stream) admits.apid ∙ carries.geometry

    few : HasFewPixels wish.pixels wish.apid stream
    few g is =
        let same : g ≡ size = let e = geometry_there in cc in
        let ended = end_of (kept_in wish.apid stream) in
        let reached : rows_reached g ended ≡ rows = ap (λ g. rows_reached g ended) same ∙ rows_known size ended some_rows in
        let width : g.width ≡ s.width = ap (λ (g : Geometry). g.width) same in
        subst (λ n. g.width * n ≤ wish.pixels) (sym reached) (subst (λ w. w * rows ≤ wish.pixels) (sym width) admits.pixels)

    has : (reads_picture wish (Answers wish) (Asks wish)).accepts stream
    has = (inl admits.octets, (size, geometry_there, few))

    -- a picture that is given for it
    module _ {took gave wrote : List ℕ} (done : DecodeDone) (since : Exchange old new took gave wrote (Asks wish old took gave))
        (is : IsPicture wish old new took gave done) where
      all_taken : took ≡ stream
      all_taken = took_all wish.octets took stream old new since if_known carries.left is.out

      same_size : done.geometry ≡ size
      same_size =
          let here : geometry_in wish.apid stream ≡ Some done.geometry = subst (λ t. geometry_in wish.apid t ≡ Some done.geometry) all_taken is.geometry in
          let there = geometry_there in
          cc

      height_known : done.geometry.rows ≢ 0
      height_known none = some_rows (sym (ap (λ (g : Geometry). g.rows) same_size) ∙ none)

      abbrev received : Numbers
      received = (is.if_known stream if_known).0

      received_are : ReceivedIn (holds_after (texts_for s wish.restore)) s.apid (output s rows x) received
      received_are =
          let kept : kept_in wish.apid took ≡ kept_in s.apid (output s rows x) =
          ap (kept_in wish.apid) all_taken ∙ ap (λ apid. kept_in apid stream) admits.apid ∙ carries.kept in
          subst (λ packets. AreReceived (holds_after (texts_for s wish.restore)) packets received) kept
          (subst (λ book. ReceivedIn (holds_after (record { book = book; restore = wish.restore })) wish.apid took received) admits.book
          (is.if_known stream if_known).1)

      none_missing : done.damage.missing ≡ []
      none_missing =
          (is.if_known stream if_known).3.missing height_known ∙ ap (λ g. whole_missing g received) same_size
          ∙ (trip.whole s rows x wish.restore received image received_are).missing

      framed : done.framing ≡ None
      framed =
          is.framing_is ∙ ap framing all_taken ∙ ap (λ left. framing_at (place_after stream) left) carries.left ∙ framing_at-is [] (place_after stream)

      given_is : SendsAll s → gave ≡ raster_octets s.depth rows s.width x
      given_is all =
          let begun = begun_in wish.apid took in
          (is.if_known stream if_known).2 ∙ ap (λ g. picture_octets g received begun) same_size ∙ heights.octets size received begun some_rows
          ∙ (trip.same s rows x wish.restore received image all received_are).octets

    module _ (raster : List ℕ) (all : SendsAll s) (same : raster_octets s.depth rows s.width x ≡ raster) where
      by_whole : DecodedWhole (DecodeCauses wish) (Asks wish) old new → Exchange old new stream raster [] (Asks wish old stream raster)
      by_whole w =
          let took = all_taken w.done w.since w.cause.cause in
          let gave : w.gave ≡ raster = given_is w.done w.since w.cause.cause all ∙ same in
          subst (λ g. Exchange old new stream g [] (Asks wish old stream g)) gave (subst (λ t. Exchange old new t w.gave [] (Asks wish old t w.gave)) took
          w.since)

      not_part : DecodedPart (DecodeCauses wish) (Asks wish) old new → ⊥
      not_part p =
          p.lacks (none_damaged p.done.damage (none_missing p.done p.since p.cause.cause)) (height_known p.done p.since p.cause.cause)
          (framed p.done p.since p.cause.cause)

      ends : (status : ℕ) → Completes (picture_outcomes wish (Answers wish) (Asks wish)) old new status → GivesRaster wish raster stream old new status
      ends status (inl w) = inl (w.0, by_whole w.1)
      ends status (inr (inl p)) = absurd (not_part p.1)
      ends status (inr (inr n)) = inr n.0

      arrives : (status : ℕ) → IsSteady old new → Decodes wish old new status → GivesRaster wish raster stream old new status
      arrives status steady run =
          let law = picture_law wish (Answers wish) (Asks wish) (decode_says wish) in
          ends status (completes (picture_outcomes wish (Answers wish) (Asks wish)) old new status (law.ends old new status run)
          (law.right old new stream if_known has) steady)

-- the octets of a raster are decoded from a stream that carries its image
pub is_returned : KnownHeights → RoundTrip → (s : Setting) (rows : ℕ) (raster stream : List ℕ) → IsImageFor s rows (image_of s raster) →
    Carries s rows (image_of s raster) stream →
    TookRaster s rows raster → SendsAll s → All (λ octet. octet < 256) raster → IsReturned s rows raster stream
is_returned heights trip s rows raster stream image carries whole all octets = record {
  back = λ wish old new status admits if_known steady run.
      arrives heights trip s rows (image_of s raster) image stream carries wish old new admits if_known raster all
      (raster-again s.depth s.signed rows s.width raster octets whole.whole) status steady run;
}

pub image_for : (s : Setting) (rows : ℕ) (raster : List ℕ) → IsInRange s → IsTrue (is_book_sound s.book) → length s.weights.shifts ≡ 10 →
    TookRaster s rows raster → IsImageFor s rows (image_of s raster)
image_for s rows raster range sound ten whole = record {
  range = range;
  sound = sound;
  height = whole.height;
  weights = ten;
  pixels =
      raster_pixels s rows raster range whole;
}

pub encoded_closed : TextsAreShort → KnownHeights → RoundTrip → (s : Setting) (old new : Outside) → IsInRange s → IsTrue (is_book_sound s.book) →
    length s.weights.shifts ≡ 10 →
    EncodedWhole s old new → EncodedClosed s old new
encoded_closed short heights trip s old new range sound ten e =
    let x = image_of s e.took in
    let image = image_for s e.rows e.took range sound ten e.raster in
    record { encoded = e; closed = is_returned heights trip s e.rows e.took (output s e.rows x) image (own_carried short s e.rows x image) e.raster }
