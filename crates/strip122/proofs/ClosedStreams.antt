-- A raster whose bare stream is decoded.
use Rattle.std.proofs.Common.{◌≡◌, ◌<◌, ◌∙◌, ℕ, ℤ, true, List, [], length, All, sym, ap, subst, inl, inr, Some, Result, Ok}
use Rattle.port_122.specs.Outside.{Outside, Exchange}
use Rattle.port_122.proofs.IfKnown.{end_known}
use Rattle.base_122.specs.declared.geometry.Geometry.{Geometry}
use Rattle.base_122.specs.declared.setting.Setting.{Setting}
use Rattle.base_122.specs.declared.wish.DecodeWish.{DecodeWish}
use Rattle.strip_decoder.proofs.RasterAgain.{raster-again}
use Rattle.strip_coder.specs.Answers.{TookRaster}
use Rattle.strip_coder.specs.Rasters.{image_of}
use Rattle.segment_defs.specs.TextWish.{text_wish}
use Rattle.strip_decoder.specs.Images.{SendsAll}
use Rattle.bare_stream.specs.Bare.{bare}
use Rattle.bare_stream.specs.BareStream.{BareStream}
use Rattle.bare_stream.specs.Decoded.{AsksBare}
use Rattle.bare_stream.specs.Images.{IsBareImage, SaysImage, ImagesAreBareStreams, bare_geometry, image_segments}
use Rattle.bare_stream.specs.Rasters.{IsBare}
use Rattle.bare_stream.specs.RoundTrip.{IsWithinCaps, BareRoundTrip, StreamsAreRead}
use Rattle.bare_stream.specs.Pictures.{all_rows}
use Rattle.bare_stream.specs.StreamRead.{reading, answer_for}
use Rattle.bare_stream.specs.declared.fault.BareFault.{BareFault}
use Rattle.plane_defs.specs.Codes.{is_book_sound}
use Rattle.strip122.specs.BareStreams.{DecodesStream, IsStreamOf, EncodedBare, decodes_bare}
use Rattle.strip122.specs.Outcomes.{DecodedBare, GivesPicture, bare_outcomes}
use Rattle.strip122.specs.Behaviours.{IsSteady}
use Rattle.strip122.specs.Closed.{AdmitsBare, GivesBareRaster, BareClosed}
use Rattle.strip122.proofs.BareRuns.{bare_decode_law}
use Rattle.strip122.proofs.Behaviours.{Completes, completes}
use Rattle.strip122.proofs.TrialsDone.{raster_pixels}

module _ (streams : StreamsAreRead) (images : ImagesAreBareStreams) (trip : BareRoundTrip) (s : Setting) (raster : List ℕ)
    (image : IsBareImage s (image_of s raster)) where
  abbrev stream : List ℕ
  stream = bare s (image_of s raster)

  module _ (wish : DecodeWish) (old new : Outside) (admits : AdmitsBare wish s (length stream)) (if_known : old.rest ≡ Some stream) where
    abbrev says : (w : List (List (List ℤ))) × SaysImage s (image_of s raster) wish.restore w
    says = images.says s (image_of s raster) wish.restore image

    found : BareStream (text_wish wish) stream (bare_geometry s) says.0
    found = subst (λ book. BareStream (record { book = book; restore = wish.restore }) stream (bare_geometry s) says.0) (sym admits.book)
        says.1.stream

    caps : IsWithinCaps wish stream (bare_geometry s)
    caps = record { few = admits.pixels; short = admits.octets }

    right : IsStreamOf wish stream (bare_geometry s)
    right = streams.answer wish stream (bare_geometry s) says.0 found caps

    has : (decodes_bare wish).accepts stream
    has = (bare_geometry s, right)

    -- the picture of a stream that was taken whole
    shown : (all : SendsAll s) (gave : List ℕ) (g : Geometry) → GivesPicture wish stream gave g →
        gave ≡ all_rows (bare_geometry s) (image_segments s (image_of s raster))
    shown all gave g picture =
        let same : g ≡ bare_geometry s = ok_one (answer_for wish stream) g (bare_geometry s) picture.stream right in
        picture.rows ∙ ap (λ h. all_rows h (reading wish stream).segments.blocks) same
        ∙ ap (all_rows (bare_geometry s)) (streams.blocks wish stream (bare_geometry s) says.0 found caps ∙ says.1.exact all)
      where
        ok_one : (o : Result Geometry BareFault) (a b : Geometry) → o ≡ Ok a → o ≡ Ok b → a ≡ b
        ok_one o a b e f = cc

    module _ (all : SendsAll s) (octets : All (λ octet. octet < 256) raster) (whole : TookRaster s s.rows raster) where
      by_whole : DecodedBare wish old new → Exchange old new stream raster [] (AsksBare wish old stream raster)
      by_whole w =
          let took : w.took ≡ stream = end_known stream w.since if_known w.ended in
          let picture = subst (λ t. GivesPicture wish t w.gave w.g) took (w.picture stream if_known) in
          let gave : w.gave ≡ raster = shown all w.gave w.g picture ∙ trip.picture s (image_of s raster) image ∙ raster-again s.depth s.signed s.rows
          s.width raster octets whole.whole in
          subst (λ g. Exchange old new stream g [] (AsksBare wish old stream g)) gave
          (subst (λ t. Exchange old new t w.gave [] (AsksBare wish old t w.gave)) took w.since)

      ends : (status : ℕ) → Completes (bare_outcomes wish) old new status → GivesBareRaster wish raster stream old new status
      ends status (inl w) = inl (w.0, by_whole w.1)
      ends status (inr (inl p)) = absurd p.1
      ends status (inr (inr n)) = inr n.0

      arrives : (status : ℕ) → IsSteady old new → DecodesStream wish old new status → GivesBareRaster wish raster stream old new status
      arrives status steady run =
          let law = bare_decode_law streams wish in
          ends status (completes (bare_outcomes wish) old new status (law.ends old new status run) (law.right old new stream if_known has) steady)

pub bare_closed : StreamsAreRead → ImagesAreBareStreams → BareRoundTrip → (s : Setting) (old new : Outside) → IsBare s → is_book_sound s.book ≡ true →
    length s.weights.shifts ≡ 10 →
    EncodedBare s old new → BareClosed s old new
bare_closed streams images trip s old new range sound ten e =
    let image : IsBareImage s (image_of s e.took) = record {
      setting = range;
      sound = sound;
      weights = ten;
      pixels =
          raster_pixels s s.rows e.took range.in_range e.raster;
    } in
    record {
      encoded = e;
      closed = λ all octets. record {
        back = λ wish old new status admits if_known steady run. arrives streams images trip s e.took image wish old new admits if_known all octets e.raster
            status
            steady run;
      };
    }
