-- The picture of some packets of an image, and what a decoder gives of them.
use Rattle.std.proofs.Common.{◌≡◌, ℕ, ℤ, Bool, List, sym, ap, subst, ◌∙◌, ◌≤◌, ◌⊎◌, Some}
use Rattle.std.proofs.lemmas.Option.{same_Some}
use Rattle.port_122.specs.Outside.{Outside}
use Rattle.base_122.specs.Setting.{image_geometry}
use Rattle.base_122.specs.declared.geometry.Geometry.{Geometry}
use Rattle.base_122.specs.declared.setting.Setting.{Setting}
use Rattle.base_122.specs.declared.wish.DecodeWish.{DecodeWish}
use Rattle.segment_defs.specs.TextWish.{TextWish}
use Rattle.segment_code.specs.ShortTexts.{TextsAreShort}
use Rattle.segment_code.specs.Coded.{CodedTextsAreRead}
use Rattle.stream_defs.specs.declared.range.RowRange.{RowRange}
use Rattle.stream_defs.specs.Begun.{begun_in, height}
use Rattle.stream_defs.specs.Damage.{damage}
use Rattle.stream_defs.specs.Fates.{geometry_in}
use Rattle.stream_defs.specs.Picture.{picture, picture_octets, picture_with, whole_picture, number_at}
use Rattle.stream_defs.specs.Received.{ReceivedIn}
use Rattle.strip_decoder.specs.declared.ending.DecodeDone.{DecodeDone}
use Rattle.strip_decoder.specs.WalkAnswers.{IsPicture}
use Rattle.strip_decoder.specs.Runs.{holds_after, Numbers}
use Rattle.strip_decoder.specs.Containment.{SameOutside, known_damage, GivesContained, GivesAlike}
use Rattle.strip_decoder.specs.Images.{texts_for, some_output, BeginsOne, reported, AreSome, reported_rows}
use Rattle.strip_decoder.proofs.Containing.{contained}
use Rattle.strip_decoder.proofs.SublistPictures.{begun_few, geometry_there, reported_is, with_all, geometry_range, few_blocks, all_shows}
use Rattle.strip_decoder.proofs.SublistSegments.{receives_those}
use Rattle.base_122.specs.Sizes.{block_count}
use Rattle.stream_defs.specs.Output.{output}

module _ (short : TextsAreShort) (s : Setting) (rows : ℕ) (x : ℕ → ℕ → ℤ) (parts : ℕ → List ℕ) (are : AreSome s rows x parts) (restore : Bool)
    (received whole : Numbers) (some_are : ReceivedIn (holds_after (texts_for s restore)) s.apid (some_output s rows x parts) received)
    (all_are : ReceivedIn (holds_after (texts_for s restore)) s.apid (output s rows x) whole) where
  -- whether the height is reported or not
  module _ (r n : ℕ) (is : (r ≡ rows) ⊎ ((s.rows ≡ 0) × (r ≡ 0))) (few : n ≤ block_count rows) where
    abbrev g : Geometry
    g = image_geometry s r

    same_at : SameOutside (height g n) s.width (damage g received n) (picture g received n) (whole_picture (image_geometry s rows) whole)
    same_at =
        let range = geometry_range short s rows x parts are (texts_for s restore) received whole some_are all_are r n is few in
        let blocks = few_blocks short s rows x parts are (texts_for s restore) received whole some_are all_are r n is few in
        let there = contained g received (number_at g whole) n range
        (with_all short s rows x parts are (texts_for s restore) received whole some_are all_are r n blocks) in
        record {
          at = λ i j inside across uncovered. sym (there.at i j inside across uncovered) ∙
              all_shows short s rows x parts are (texts_for s restore) received whole some_are all_are r n is few i j inside across;
        }

  pub sublist_same : (n : ℕ) → n ≤ block_count rows →
      SameOutside (height (reported s rows parts) n) s.width (damage (reported s rows parts) received n) (picture (reported s rows parts) received n)
      (whole_picture (image_geometry s rows) whole)
  sublist_same n few = same_at (reported_rows s rows parts) n (reported_is s rows parts) few

-- ---- what a decoder gives

pub decoded_contained : (wish : DecodeWish) (start new : Outside) (took gave every : List ℕ) (done : DecodeDone) → IsPicture wish start new took gave done →
    start.rest ≡ Some every → GivesContained wish took gave done
decoded_contained wish start new took gave every done is if_known =
    let t = is.if_known every if_known in
    let g = done.geometry in
    let n : ℕ = begun_in wish.apid took in
    record {
      received = t.0;
      received_is = t.1;
      gave_is = t.2;
      whatever = λ numbers are.
          subst (λ rows. SameOutside rows g.width (known_damage done) (picture_with g numbers n) (picture g t.0 n)) (sym is.written)
          (subst (λ rs. SameOutside (height g n) g.width rs (picture_with g numbers n) (picture g t.0 n)) (sym t.3.ranges_are)
          (contained g t.0 numbers n is.range are));
    }

pub decoded_alike : TextsAreShort → CodedTextsAreRead → (wish : DecodeWish) (start new : Outside) (took gave every : List ℕ) (done : DecodeDone)
    (s : Setting) (rows : ℕ) (x : ℕ → ℕ → ℤ) (parts : ℕ → List ℕ) →
    IsPicture wish start new took gave done → start.rest ≡ Some every → wish.apid ≡ s.apid → wish.book ≡ s.book → took ≡ some_output s rows x parts →
    AreSome s rows x parts → BeginsOne s rows parts → GivesAlike wish.restore s rows x parts gave done
decoded_alike short read wish start new took gave every done s rows x parts is if_known apid book took_is are begins =
    let t = is.if_known every if_known in
    let received = t.0 in
    let octets = some_output s rows x parts in
    let n : ℕ = begun_in s.apid octets in
    let begun_same : begun_in wish.apid took ≡ n = ap (λ apid. begun_in apid took) apid ∙ ap (begun_in s.apid) took_is in
    let there : geometry_in s.apid octets ≡ Some done.geometry = subst (λ octets. geometry_in s.apid octets ≡ Some done.geometry) took_is
    (subst (λ n. geometry_in n took ≡ Some done.geometry) apid is.geometry) in
    let same : done.geometry ≡ reported s rows parts = same_Some _ _ (sym there ∙ geometry_there short s rows x parts are begins) in
    let texts : TextWish = texts_for s wish.restore in
    let mine : ReceivedIn (holds_after texts) s.apid octets received = subst (λ octets. ReceivedIn (holds_after texts) s.apid octets received) took_is
    (subst (λ n. ReceivedIn (holds_after texts) n took received) apid
    (subst (λ b. ReceivedIn (holds_after (record { book = b; restore = wish.restore })) wish.apid took received) book t.1)) in
    let written : done.written ≡ height done.geometry n = is.written ∙ ap (height done.geometry) begun_same in
    let damaged : known_damage done ≡ damage done.geometry received n = t.3.ranges_are ∙ ap (damage done.geometry received) begun_same in
    record {
      geometry = same;
      received = received;
      received_is = mine;
      those = receives_those short s rows x parts are wish.restore received mine read;
      gave_is = t.2 ∙ ap (picture_octets done.geometry received) begun_same;
      same = λ whole all_are.
          let whole_is = whole_picture (image_geometry s rows) whole in
          subst (λ (lines : ℕ). SameOutside lines s.width (known_damage done) (picture done.geometry received n) whole_is) (sym written)
          (subst (λ (rs : List RowRange). SameOutside (height done.geometry n) s.width rs (picture done.geometry received n) whole_is) (sym damaged)
          (subst (λ (g : Geometry). SameOutside (height g n) s.width (damage g received n) (picture g received n) whole_is) (sym same)
          (sublist_same short s rows x parts are wish.restore received whole mine all_are n (begun_few short s rows x parts are begins))));
    }
