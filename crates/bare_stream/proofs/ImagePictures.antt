-- The picture of an image's segments is the image.
use Rattle.std.proofs.Common.{◌≡◌, ◌<◌, ◌*◌, ◌/◌, ◌%◌, ℕ, ℤ, pos, List, [], drop, get_or, ap, ◌∙◌, arith, get_or-take, get_or-drop}
use Rattle.std.proofs.lemmas.List.FromFn.{get_or-map-range_with_len}
use Rattle.base_122.specs.Ranges.{IsWithin, rows_range}
use Rattle.base_122.specs.Sizes.{first_block, total_blocks}
use Rattle.base_122.specs.declared.geometry.Geometry.{Geometry}
use Rattle.base_122.specs.declared.setting.Setting.{Setting}
use Rattle.base_122.proofs.SizeBounds.{nine-le-total_blocks}
use Rattle.raster_rows.specs.Pixels.{raster_octets}
use Rattle.stream_defs.specs.Output.{image_blocks, segment_of, segments_of}
use Rattle.stream_defs.specs.Picture.{number_at, picture_of, whole_with}
use Rattle.stream_defs.proofs.HeightPictures.{raster_same}
use Rattle.picture_rows.proofs.SameImages as images
use Rattle.bare_stream.specs.Images.{IsBareImage, bare_geometry, image_segments}
use Rattle.bare_stream.specs.Pictures.{all_rows, segments_in}
use Rattle.bare_stream.proofs.Counts.{rows_in}
use Rattle.bare_stream.proofs.RowsShown.{number_is}
use Rattle.bare_stream.proofs.SegmentCounts.{segment_within, place_within, place_is}

module _ (s : Setting) (x : ℕ → ℕ → ℤ) (is : IsBareImage s x) where
  abbrev all : List (List ℤ)
  all = image_blocks s x

  abbrev g : Geometry
  g = bare_geometry s

  abbrev total : ℕ
  total = total_blocks s.width s.rows

  abbrev numbers : ℕ → ℕ → ℤ
  numbers = number_at g (segments_in (image_segments s x))

  rows : IsWithin rows_range s.rows
  rows = rows_in s is.setting

  -- each block is there with its numbers
  number_here : (b i : ℕ) → b < total → numbers b i ≡ get_or (get_or all b []) i (pos 0)
  number_here b i lt =
      let S = s.segment in
      let some = is.setting.in_range.segment.0 in
      let any = nine-le-total_blocks s.width s.rows is.setting.in_range.width.0 rows.0 in
      let index = b / g.segment in
      let k = b % g.segment in
      let there : get_or (image_segments s x) index [] ≡ segment_of s all index =
      get_or-map-range_with_len (segment_of s all) 0 (segments_of s) index index [] (segment_within total S some any b lt) (omega arith) in
      let in_segment : get_or (segment_of s all index) k [] ≡ get_or all b [] =
      get_or-take S (drop (first_block S index) all) k [] (place_within total S some any b) ∙ get_or-drop (index * S) all k [] ∙ ap (λ n. get_or all n [])
      (place_is total S some any b lt) in
      number_is g (image_segments s x) b i ∙ ap (λ xs. get_or (get_or xs k []) i (pos 0)) there ∙ ap (λ xs. get_or xs i (pos 0)) in_segment

  pixel_same : (i j : ℕ) → i < s.rows → j < s.width → whole_with g numbers i j ≡ x i j
  unfolding picture_of
  pixel_same = images.pixel_same s x is.setting.in_range rows is.pixels.at numbers number_here

  pub picture_is : all_rows (bare_geometry s) (image_segments s x) ≡ raster_octets s.depth s.rows s.width x
  picture_is = raster_same s.depth s.rows s.width (whole_with g numbers) x pixel_same
