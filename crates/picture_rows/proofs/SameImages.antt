-- An image is the picture of its own numbers.
use Rattle.std.proofs.Common.{◌≡◌, ◌<◌, ◌+◌, ◌-◌, ◌*◌, ◌*ℤ◌, ℕ, ℤ, pos, List, [], get_or, min, sym, ap, ◌∙◌, arith, mul-le-mul_right}
use Rattle.std.proofs.lemmas.Nat.{div-mul-add, mod-mul-add}
use Rattle.std.proofs.lemmas.Bool.Decides.{nat_tests}
use Rattle.base_122.specs.Ranges.{IsInRange, IsWithin, rows_range}
use Rattle.base_122.specs.Sizes.{block_count, total_blocks}
use Rattle.base_122.specs.declared.setting.Setting.{Setting}
use Rattle.base_122.proofs.SizeBounds.{three-le-block_count}
use Rattle.raster_rows.specs.Pixels.{IsPixel, clamped}
use Rattle.raster_rows.proofs.Numbers.{clamped_is}
use Rattle.wave_defs.specs.Blocks.{coefficient, weight_at}
use Rattle.wave_defs.specs.Pyramid.{Pyramid, padded, pyramid}
use Rattle.wave_defs.specs.Reach.{SameBlock}
use Rattle.wave_defs.proofs.BlockLaws.{get_or-block}
use Rattle.wave_defs.proofs.PyramidLaws.{rebuilt-pyramid}
use Rattle.wave_defs.proofs.ReachLaws.{sample-reach}
use Rattle.stream_defs.specs.Output.{image_blocks}
use Rattle.stream_defs.specs.Picture.{pyramid_with, picture_of}
use Rattle.base_122.specs.Setting.{geometry_of}
use Rattle.stream_defs.proofs.ImageLaws.{image_block}
use Rattle.picture_rows.proofs.BandBlocks.{part_is}
use Rattle.stream_defs.proofs.BandPlaces.{coefficient_with}

-- numbers that are those of the image's blocks
module _ (s : Setting) (x : ℕ → ℕ → ℤ) (range : IsInRange s) (height : IsWithin rows_range s.rows) (pixels : (i j : ℕ) → i < s.rows → j < s.width →
    IsPixel s.depth s.signed (x i j)) (numbers : ℕ → ℕ → ℤ)
    (same : (b i : ℕ) → b < total_blocks s.width s.rows → numbers b i ≡ get_or (get_or (image_blocks s x) b []) i (pos 0)) where
  abbrev r : ℕ
  r = block_count s.rows

  abbrev c : ℕ
  c = block_count s.width

  abbrev weights : List ℕ
  weights = s.weights.shifts

  abbrev bands : Pyramid
  bands = pyramid (padded x s.rows s.width) r c

  -- they are those of its bands
  weighted : (t k i : ℕ) → t < r → k < c → i < 64 → coefficient bands t k i *ℤ weight_at weights i ≡ numbers (t * c + k) i
  weighted t k i row column small = grind (arith, nat_tests, mul-le-mul_right, pos, image_block, div-mul-add, mod-mul-add, get_or-block)

  pub block_same : (t k : ℕ) → t < r → k < c → SameBlock (pyramid_with numbers c weights) bands t k
  block_same t k row column = record {
    at = λ i small. coefficient_with numbers c weights t k i small
        ∙ sym (part_is weights i (coefficient bands t k i) (numbers (t * c + k) i) range.weights (weighted t k i row column small));
  }

  pub pixel_same : (i j : ℕ) → i < s.rows → j < s.width → picture_of (geometry_of s) numbers r i j ≡ x i j
  unfolding picture_of
  pixel_same i j inside across =
      let tall = three-le-block_count s.rows height.0 in
      let wide = three-le-block_count s.width range.width.0 in
      let row : min i (s.rows - 1) ≡ i = omega (arith, inside) in
      let column : min j (s.width - 1) ≡ j = omega (arith, across) in
      let here : padded x s.rows s.width i j ≡ x i j = ap (λ n. x n (min j (s.width - 1))) row ∙ ap (x i) column in
      let pixel = pixels i j inside across in
      ap (clamped s.depth s.signed)
      (sample-reach (pyramid_with numbers c weights) bands r c i j (omega (arith, tall)) (omega (arith, wide)) (omega (arith, inside))
      (omega (arith, across)) (λ t k low few above beside. block_same t k low few)
      ∙ ap (λ (f : ℕ → ℕ → ℤ). f i j) (rebuilt-pyramid (padded x s.rows s.width) r c) ∙ here)
      ∙ (clamped_is s.depth s.signed (x i j) range.depth).2 pixel.low pixel.high
