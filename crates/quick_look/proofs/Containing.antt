-- What a decoder gives is the same outside the rectangles.
use Rattle.std.proofs.Common.{◌≡◌, ℕ, ℤ, List, sym, ap, subst, ◌∙◌, Some}
use Rattle.std.proofs.lemmas.Option.{same_Some}
use Rattle.port_122.specs.Outside.{Outside}
use Rattle.base_122.specs.Setting.{image_geometry}
use Rattle.base_122.specs.declared.geometry.Geometry.{Geometry}
use Rattle.base_122.specs.declared.setting.Setting.{Setting}
use Rattle.base_122.specs.declared.wish.DecodeWish.{DecodeWish}
use Rattle.segment_defs.specs.TextWish.{TextWish}
use Rattle.segment_code.specs.ShortTexts.{TextsAreShort}
use Rattle.stream_defs.specs.Begun.{begun_in, height}
use Rattle.stream_defs.specs.Fates.{geometry_in}
use Rattle.stream_defs.specs.Picture.{picture, picture_octets, picture_with, whole_picture}
use Rattle.stream_defs.specs.Received.{ReceivedIn}
use Rattle.quick_look.specs.Rects.{rects}
use Rattle.quick_look.specs.RectLaws.{SameOutsideRects}
use Rattle.strip_decoder.specs.declared.ending.DecodeDone.{DecodeDone}
use Rattle.strip_decoder.specs.WalkAnswers.{IsPicture}
use Rattle.strip_decoder.specs.Runs.{holds_after}
use Rattle.strip_decoder.specs.Images.{texts_for, some_output, BeginsOne, reported, AreSome}
use Rattle.strip_decoder.proofs.SublistPictures.{begun_few, geometry_there}
use Rattle.quick_look.specs.Containment.{GivesInRects, GivesAlikeInRects}
use Rattle.quick_look.proofs.SomePackets.{in_rects, sublist_in_rects}

pub decoded_in_rects : (wish : DecodeWish) (start new : Outside) (took gave every : List ℕ) (done : DecodeDone) → IsPicture wish start new took gave done →
    start.rest ≡ Some every → GivesInRects wish took gave done
decoded_in_rects wish start new took gave every done is if_known =
    let t = is.if_known every if_known in
    let g = done.geometry in
    let n : ℕ = begun_in wish.apid took in
    record {
      received = t.0;
      received_is = t.1;
      gave_is = t.2;
      whatever = λ numbers are.
          subst (λ rows. SameOutsideRects rows g.width (rects g t.0 n) (picture_with g numbers n) (picture g t.0 n)) (sym is.written)
          (in_rects g t.0 numbers n is.range are);
    }

pub decoded_alike : TextsAreShort → (wish : DecodeWish) (start new : Outside) (took gave every : List ℕ) (done : DecodeDone) (s : Setting) (rows : ℕ)
    (x : ℕ → ℕ → ℤ) (parts : ℕ → List ℕ) →
    IsPicture wish start new took gave done → start.rest ≡ Some every → wish.apid ≡ s.apid → wish.book ≡ s.book → took ≡ some_output s rows x parts →
    AreSome s rows x parts → BeginsOne s rows parts → GivesAlikeInRects wish.restore s rows x parts gave done
decoded_alike short wish start new took gave every done s rows x parts is if_known apid book took_is are begins =
    let t = is.if_known every if_known in
    let received = t.0 in
    let octets = some_output s rows x parts in
    let n : ℕ = begun_in s.apid octets in
    let begun_same : begun_in wish.apid took ≡ n = ap (λ apid. begun_in apid took) apid ∙ ap (begun_in s.apid) took_is in
    let there : geometry_in s.apid octets ≡ Some done.geometry = subst (λ octets. geometry_in s.apid octets ≡ Some done.geometry) took_is
    (subst (λ n. geometry_in n took ≡ Some done.geometry) apid is.geometry) in
    let same : done.geometry ≡ reported s rows parts = same_Some _ _ (sym there ∙ geometry_there short s rows x parts are begins) in
    let texts : TextWish = texts_for s wish.restore in
    let mine : ReceivedIn (holds_after texts) s.apid octets received = subst (λ octets. ReceivedIn (holds_after texts) s.apid octets received) took_is
    (subst (λ n. ReceivedIn (holds_after texts) n took received) apid
    (subst (λ b. ReceivedIn (holds_after (record { book = b; restore = wish.restore })) wish.apid took received) book t.1)) in
    let written : done.written ≡ height done.geometry n = is.written ∙ ap (height done.geometry) begun_same in
    record {
      geometry = same;
      received = received;
      received_is = mine;
      gave_is = t.2 ∙ ap (picture_octets done.geometry received) begun_same;
      same = λ whole all_are.
          let whole_is = whole_picture (image_geometry s rows) whole in
          subst (λ (lines : ℕ). SameOutsideRects lines s.width (rects done.geometry received n) (picture done.geometry received n) whole_is) (sym written)
          (subst (λ (g : Geometry). SameOutsideRects (height g n) s.width (rects g received n) (picture g received n) whole_is) (sym same)
          (sublist_in_rects short s rows x parts are wish.restore received whole mine all_are n (begun_few short s rows x parts are begins)));
    }
