-- The rows that segments determine.
use Rattle.std.proofs.Common.{◌≡◌, ◌≤◌, ◌<◌, ◌+◌, ◌-◌, ◌*◌, ◌/◌, ◌%◌, ◌==◌, ℕ, ℤ, pos, List, [], length, get_or, refl, ap, ◌∙◌, arith, true, min, if◌then◌else◌}
use Rattle.std.proofs.lemmas.Bool.Decides.{nat_tests}
use Rattle.std.proofs.lemmas.Nat.{div_below, div-mul-add}
use Rattle.std.proofs.lemmas.Option.{unwrap_or-slice_get}
use Rattle.base_122.specs.Sizes.{block_count, total_blocks, first_block}
use Rattle.base_122.specs.declared.geometry.Geometry.{Geometry}
use Rattle.base_122.proofs.SizeBounds.{three-le-block_count}
use Rattle.raster_rows.specs.Pixels.{raster_octets}
use Rattle.segment_defs.specs.declared.head.SegmentHead.{SegmentHead}
use Rattle.stream_defs.specs.Begun.{placed}
use Rattle.stream_defs.specs.Picture.{number_at, picture_of, whole_with}
use Rattle.stream_defs.specs.Settled.{rows_through, block_rows_before}
use Rattle.stream_defs.proofs.HeightPictures.{placed_octets}
use Rattle.picture_rows.specs.Prefixes.{rows_of}
use Rattle.picture_rows.proofs.RowsOut.{all_rows as rows_all}
use Rattle.bare_stream.specs.Pictures.{open_geometry, segments_in, block_rows_in, open_rows, shape_with}
use Rattle.stream_defs.proofs.Equations.{number_at-is}

-- ---- before the last segment

module _ (first : SegmentHead) (blocks : List (List (List ℤ))) (wide : 17 ≤ first.image.width)
    (room : first_block first.blocks (length blocks) < total_blocks first.image.width 262144) where
  abbrev g : Geometry
  g = open_geometry first

  abbrev c : ℕ
  c = block_count first.image.width

  abbrev m : ℕ
  m = block_rows_in first (length blocks)

  few : m < 32768
  few = grind (arith, nat_tests, three-le-block_count, div_below)

  through : rows_through (shape_with first 262144) m ≡ 8 * m - 21
  through = grind (arith, nat_tests, few)

  -- the rows of the tallest picture that they determine
  pub rows_open : rows_of (shape_with first 262144) (number_at g (segments_in blocks))
      (rows_through (shape_with first 262144) (block_rows_before (shape_with first 262144) (first_block first.blocks (length blocks)))) ≡ open_rows first blocks
  unfolding rows_of open_rows picture_of
  rows_open =
      let numbers = number_at g (segments_in blocks) in
      let low = few in
      let three = three-le-block_count first.image.width wide in
      let k = 8 * m - 21 in
      let all : min k 262144 ≡ k = omega (arith, low) in
      ap (λ n. raster_octets g.depth (min n 262144) g.width (whole_with (placed g) numbers)) through
      ∙ ap (λ n. raster_octets g.depth n g.width (whole_with (placed g) numbers)) all
      ∙ placed_octets g numbers refl (omega (arith, three)) m k (omega arith) (omega (arith, low))

-- ---- with the last segment

module _ (g : Geometry) (wide : 17 ≤ g.width) (numbers : ℕ → ℕ → ℤ) where
  pub rows_closed : rows_of g numbers (rows_through g (block_rows_before g (total_blocks g.width g.rows))) ≡ raster_octets g.depth g.rows g.width
      (whole_with g numbers)
  rows_closed =
      let c = block_count g.width in
      let three = three-le-block_count g.width wide in
      let turned : c * block_count g.rows ≡ block_count g.rows * c + 0 = grind arith in
      let last : total_blocks g.width g.rows / c ≡ block_count g.rows = ap (λ n. n / c) turned ∙ div-mul-add (block_count g.rows) c 0 (omega (arith, three)) in
      let same : (block_count g.rows == block_count g.rows) ≡ true = grind (arith, nat_tests) in
      ap (λ n. rows_of g numbers (rows_through g n)) last ∙ ap (λ b. rows_of g numbers (if b then g.rows else 8 * block_count g.rows - 21)) same
      ∙ rows_all g numbers

-- ---- the numbers of blocks

pub number_is : (g : Geometry) (w : List (List (List ℤ))) (block i : ℕ) → number_at g (segments_in w) block i
    ≡ get_or (get_or (get_or w (block / g.segment) []) (block % g.segment) []) i (pos 0)
number_is g w block i = number_at-is g (segments_in w) block i ∙ ap (λ x. get_or (get_or x (block % g.segment) []) i (pos 0))
    (unwrap_or-slice_get w (block / g.segment) [])
