-- The picture that is decoded from all packets of an image is the image.
use Rattle.std.proofs.Common.{◌≡◌, ◌<◌, ℕ, ℤ, Bool, List, refl, sym, ap, subst, ◌∙◌, Some}
use Rattle.std.proofs.lemmas.Option.{same_Some}
use Rattle.port_122.specs.Outside.{Outside}
use Rattle.base_122.specs.Setting.{image_geometry, sized}
use Rattle.base_122.specs.declared.geometry.Geometry.{Geometry}
use Rattle.base_122.specs.declared.setting.Setting.{Setting}
use Rattle.base_122.specs.declared.wish.DecodeWish.{DecodeWish}
use Rattle.packet_defs.specs.Streams.{framing}
use Rattle.segment_defs.specs.TextWish.{TextWish}
use Rattle.segment_code.specs.ShortTexts.{TextsAreShort}
use Rattle.segment_code.specs.Coded.{CodedTextsAreRead}
use Rattle.stream_defs.specs.Damage.{whole_missing}
use Rattle.stream_defs.specs.Begun.{begun_in, height}
use Rattle.stream_defs.proofs.PlacedLaws.{is_not_open, within_not}
use Rattle.strip_decoder.proofs.Containing.{known_octets}
use Rattle.stream_defs.specs.Fates.{geometry_in}
use Rattle.stream_defs.specs.Output.{output}
use Rattle.stream_defs.specs.Picture.{number_at, whole_picture, whole_octets}
use Rattle.stream_defs.specs.Received.{ReceivedIn}
use Rattle.stream_defs.proofs.HeightPictures.{raster_same}
use Rattle.strip_decoder.specs.declared.ending.DecodeDone.{DecodeDone}
use Rattle.strip_decoder.specs.WalkAnswers.{IsPicture}
use Rattle.strip_decoder.specs.Images.{texts_for, IsImageFor, SendsAll}
use Rattle.strip_decoder.specs.Runs.{Numbers, holds_after}
use Rattle.strip_decoder.specs.RoundTrip.{ArrivesSame, GivesBack}
use Rattle.picture_rows.proofs.SameImages as images
use Rattle.strip_decoder.proofs.SublistPictures.{sized_range}
use Rattle.strip_decoder.proofs.WholeImages.{arrives_whole, geometry_reported, number_is}

module _ (short : TextsAreShort) (read : CodedTextsAreRead) (s : Setting) (rows : ℕ) (x : ℕ → ℕ → ℤ) (is : IsImageFor s rows x) (restore : Bool)
    (received : Numbers) (received_is : ReceivedIn (holds_after (texts_for s restore)) s.apid (output s rows x) received) (sends : SendsAll s) where
  abbrev g : Geometry
  g = image_geometry s rows

  pixel_same : (i j : ℕ) → i < rows → j < s.width → whole_picture g received i j ≡ x i j
  pixel_same = images.pixel_same (sized s rows) x (sized_range short s rows x is) is.height.0 is.pixels.at (number_at g received)
      (number_is short s rows x is restore received received_is read sends)

  pub arrives_same : ArrivesSame s rows x received
  arrives_same = record { at = pixel_same; octets = raster_same s.depth rows s.width (whole_picture g received) x pixel_same }

-- ---- what a decoder gives

pub decoded_back : TextsAreShort → CodedTextsAreRead → (wish : DecodeWish) (start new : Outside) (took gave every : List ℕ) (done : DecodeDone)
    (s : Setting) (rows : ℕ) (x : ℕ → ℕ → ℤ) →
    IsPicture wish start new took gave done → start.rest ≡ Some every → wish.apid ≡ s.apid → wish.book ≡ s.book → took ≡ output s rows x →
    IsImageFor s rows x → GivesBack s rows x gave done
decoded_back short read wish start new took gave every done s rows x found if_known apid book took_is is =
    let t = found.if_known every if_known in
    let received = t.0 in
    let n : ℕ = begun_in wish.apid took in
    let there : geometry_in s.apid (output s rows x) ≡ Some done.geometry = subst (λ octets. geometry_in s.apid octets ≡ Some done.geometry) took_is
    (subst (λ n. geometry_in n took ≡ Some done.geometry) apid found.geometry) in
    let size : done.geometry ≡ image_geometry s rows = same_Some _ _ (sym there ∙ geometry_reported short s rows x is) in
    let high : done.geometry.rows ≡ rows = ap (λ (g : Geometry). g.rows) size in
    let some : done.geometry.rows ≡ 0 → ⊥ = λ none. within_not rows is.height.0 (sym high ∙ none) in
    let all_rows : height done.geometry n ≡ done.geometry.rows = rw (is_not_open done.geometry.rows some) refl in
    let texts : TextWish = texts_for s wish.restore in
    let mine : ReceivedIn (holds_after texts) s.apid (output s rows x) received =
    subst (λ octets. ReceivedIn (holds_after texts) s.apid octets received) took_is (subst (λ n. ReceivedIn (holds_after texts) n took received) apid
    (subst (λ b. ReceivedIn (holds_after (record { book = b; restore = wish.restore })) wish.apid took received) book t.1)) in
    let whole = arrives_whole short s rows x is wish.restore received mine read in
    record {
      geometry = size;
      written = found.written ∙ all_rows ∙ high;
      missing = t.3.missing some ∙ ap (λ g. whole_missing g received) size ∙ whole.missing;
      framing_is = found.framing_is ∙ ap framing took_is ∙ whole.framing_is;
      same = λ sends. t.2 ∙ known_octets done.geometry received n some ∙ ap (λ g. whole_octets g received) size
          ∙ (arrives_same short read s rows x is wish.restore received mine sends).octets;
    }
