-- A look at all packets of an image is its lowest band.
use Rattle.std.proofs.Common.{◌≡◌, ◌<◌, ℕ, ℤ, Bool, List, refl, sym, ap, subst, ◌∙◌, arith, Some}
use Rattle.std.proofs.lemmas.Option.{same_Some}
use Rattle.port_122.specs.Outside.{Outside}
use Rattle.base_122.specs.Setting.{image_geometry, sized}
use Rattle.base_122.specs.Sizes.{block_count}
use Rattle.base_122.specs.declared.geometry.Geometry.{Geometry}
use Rattle.base_122.specs.declared.setting.Setting.{Setting}
use Rattle.base_122.specs.declared.wish.DecodeWish.{DecodeWish}
use Rattle.raster_rows.specs.Pixels.{clamped, raster_octets}
use Rattle.segment_defs.specs.TextWish.{TextWish}
use Rattle.segment_code.specs.ShortTexts.{TextsAreShort}
use Rattle.segment_code.specs.Coded.{CodedTextsAreRead}
use Rattle.stream_defs.specs.Begun.{begun_in, block_rows}
use Rattle.stream_defs.specs.Fates.{geometry_in}
use Rattle.stream_defs.specs.Output.{output}
use Rattle.stream_defs.specs.Picture.{number_at, pyramid_with}
use Rattle.stream_defs.specs.Received.{ReceivedIn}
use Rattle.stream_defs.proofs.HeightPictures.{raster_same}
use Rattle.stream_defs.proofs.PlacedLaws.{is_not_open, within_not}
use Rattle.wave_defs.specs.Pyramid.{Pyramid, padded, pyramid}
use Rattle.strip_decoder.specs.declared.ending.DecodeDone.{DecodeDone}
use Rattle.strip_decoder.specs.Images.{texts_for, IsImageFor, SendsAll}
use Rattle.strip_decoder.specs.Runs.{Numbers, holds_after}
use Rattle.picture_rows.proofs.SameImages.{block_same}
use Rattle.strip_decoder.proofs.SublistPictures.{sized_range}
use Rattle.strip_decoder.proofs.WholeImages.{geometry_reported, number_is}
use Rattle.quick_look.specs.Look.{look, look_octets}
use Rattle.quick_look.specs.Looks.{IsLook}
use Rattle.quick_look.specs.LookLaws.{low_image}
use Rattle.quick_look.proofs.LowBands.{first_is, low_is}

module _ (short : TextsAreShort) (read : CodedTextsAreRead) (s : Setting) (rows : ℕ) (x : ℕ → ℕ → ℤ) (is : IsImageFor s rows x) (restore : Bool)
    (received : Numbers) (received_is : ReceivedIn (holds_after (texts_for s restore)) s.apid (output s rows x) received) (sends : SendsAll s) where
  abbrev g : Geometry
  g = image_geometry s rows

  abbrev r : ℕ
  r = block_count rows

  abbrev c : ℕ
  c = block_count s.width

  abbrev weights : List ℕ
  weights = s.weights.shifts

  abbrev bands : Pyramid
  bands = pyramid (padded x rows s.width) r c

  pub look_is : (t k : ℕ) → t < r → k < c → look g received t k ≡ low_image s rows x t k
  look_is t k row column =
      let low = pyramid_with (number_at g received) c weights in
      let same = block_same (sized s rows) x (sized_range short s rows x is) is.height.0 is.pixels.at (number_at g received)
      (number_is short s rows x is restore received received_is read sends) t k row column in
      let there : low.ll3 t k ≡ bands.ll3 t k = sym (first_is low t k) ∙ same.at 0 (omega arith) ∙ first_is bands t k in
      ap (clamped s.depth s.signed) (low_is g (number_at g received) t k ∙ there)

-- ---- what a look gives

pub given_back : TextsAreShort → CodedTextsAreRead → (wish : DecodeWish) (start new : Outside) (took gave every : List ℕ) (done : DecodeDone) (s : Setting)
    (rows : ℕ) (x : ℕ → ℕ → ℤ) →
    IsLook wish start new took gave done → start.rest ≡ Some every → wish.apid ≡ s.apid → wish.book ≡ s.book → took ≡ output s rows x →
    IsImageFor s rows x → SendsAll s →
    gave ≡ raster_octets s.depth (block_count rows) (block_count s.width) (low_image s rows x)
given_back short read wish start new took gave every done s rows x found if_known apid book took_is is sends =
    let t = found.found.if_known every if_known in
    let received = t.0 in
    let n : ℕ = begun_in wish.apid took in
    let there : geometry_in s.apid (output s rows x) ≡ Some done.geometry =
    subst (λ octets. geometry_in s.apid octets ≡ Some done.geometry) took_is (subst (λ n. geometry_in n took ≡ Some done.geometry) apid found.found.geometry) in
    let size : done.geometry ≡ image_geometry s rows = same_Some _ _ (sym there ∙ geometry_reported short s rows x is) in
    let some : rows ≡ 0 → ⊥ = within_not rows is.height.0 in
    let all_rows : block_rows (image_geometry s rows) n ≡ block_count rows = rw (is_not_open rows some) refl in
    let texts : TextWish = texts_for s wish.restore in
    let mine : ReceivedIn (holds_after texts) s.apid (output s rows x) received =
    subst (λ octets. ReceivedIn (holds_after texts) s.apid octets received) took_is (subst (λ n. ReceivedIn (holds_after texts) n took received) apid
    (subst (λ b. ReceivedIn (holds_after (record { book = b; restore = wish.restore })) wish.apid took received) book t.1)) in
    found.look every if_known received t.1 ∙ ap (λ g. look_octets g received n) size
    ∙ ap (λ k. raster_octets s.depth k (block_count s.width) (look (image_geometry s rows) received)) all_rows
    ∙ raster_same s.depth (block_count rows) (block_count s.width) (look (image_geometry s rows) received) (low_image s rows x)
    (look_is short read s rows x is wish.restore received mine sends)
