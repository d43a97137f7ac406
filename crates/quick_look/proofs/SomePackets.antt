-- Some packets of an image, and all of them, give pictures that are the same outside the rectangles.
use Rattle.std.proofs.Common.{◌≡◌, ◌⊎◌, ◌≤◌, ℕ, ℤ, Bool, List, sym, ◌∙◌}
use Rattle.base_122.specs.Ranges.{IsGeometryInRange}
use Rattle.base_122.specs.Setting.{image_geometry}
use Rattle.base_122.specs.Sizes.{block_count}
use Rattle.base_122.specs.declared.geometry.Geometry.{Geometry}
use Rattle.base_122.specs.declared.setting.Setting.{Setting}
use Rattle.segment_code.specs.ShortTexts.{TextsAreShort}
use Rattle.stream_defs.specs.Begun.{height}
use Rattle.stream_defs.specs.Output.{output}
use Rattle.stream_defs.specs.Picture.{number_at, picture, picture_with, whole_picture}
use Rattle.stream_defs.specs.Received.{ReceivedIn}
use Rattle.quick_look.specs.Rects.{rects}
use Rattle.quick_look.specs.RectLaws.{SameOutsideRects}
use Rattle.quick_look.proofs.RectReach.{stays}
use Rattle.strip_decoder.specs.Runs.{Numbers, holds_after}
use Rattle.strip_decoder.specs.Images.{texts_for, AreWith, AreSome, reported, reported_rows, some_output}
use Rattle.strip_decoder.proofs.SublistPictures.{all_shows, few_blocks, geometry_range, reported_is, with_all}

-- whatever numbers the missing blocks have
pub in_rects : (g : Geometry) (received : Numbers) (numbers : ℕ → ℕ → ℤ) (n : ℕ) → IsGeometryInRange g → AreWith g received numbers n →
    SameOutsideRects (height g n) g.width (rects g received n) (picture_with g numbers n) (picture g received n)
in_rects g received numbers n range are = stays g received n numbers (number_at g received) range (record { at = are.at })

module _ (short : TextsAreShort) (s : Setting) (rows : ℕ) (x : ℕ → ℕ → ℤ) (parts : ℕ → List ℕ) (are : AreSome s rows x parts) where
  module _ (restore : Bool) (received whole : Numbers)
      (some_are : ReceivedIn (holds_after (texts_for s restore)) s.apid (some_output s rows x parts) received)
      (all_are : ReceivedIn (holds_after (texts_for s restore)) s.apid (output s rows x) whole) where
    -- whether the height is reported or not
    module _ (r n : ℕ) (is : (r ≡ rows) ⊎ ((s.rows ≡ 0) × (r ≡ 0))) (few : n ≤ block_count rows) where
      abbrev g : Geometry
      g = image_geometry s r

      same_at : SameOutsideRects (height g n) s.width (rects g received n) (picture g received n) (whole_picture (image_geometry s rows) whole)
      same_at =
          let range = geometry_range short s rows x parts are (texts_for s restore) received whole some_are all_are r n is few in
          let blocks = few_blocks short s rows x parts are (texts_for s restore) received whole some_are all_are r n is few in
          let there = in_rects g received (number_at g whole) n range
          (with_all short s rows x parts are (texts_for s restore) received whole some_are all_are r n blocks) in
          record {
            at = λ i j inside across none. sym (there.at i j inside across none) ∙
                all_shows short s rows x parts are (texts_for s restore) received whole some_are all_are r n is few i j inside across;
          }

    pub sublist_in_rects : (n : ℕ) → n ≤ block_count rows →
        SameOutsideRects (height (reported s rows parts) n) s.width (rects (reported s rows parts) received n) (picture (reported s rows parts) received n)
        (whole_picture (image_geometry s rows) whole)
    sublist_in_rects n few = same_at (reported_rows s rows parts) n (reported_is s rows parts) few
