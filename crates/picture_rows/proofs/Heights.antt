-- The first rows of a picture are those of a picture of fewer rows too.
use Rattle.std.proofs.Common.{◌≡◌, ◌<◌, ◌≤◌, ◌+◌, ◌-◌, ◌*◌, ◌/◌, ◌==◌, ℕ, zero, suc, ℤ, ◌∷◌, ◌++◌, map, refl, sym, ap, subst, ◌∙◌, arith, false, min}
use Rattle.std.proofs.Common.{if◌then◌else◌}
use Rattle.std.specs.List.{range_with_len}
use Rattle.std.proofs.lemmas.Bool.Decides.{nat_tests}
use Rattle.std.proofs.lemmas.Nat.{div_below}
use Rattle.base_122.specs.Sizes.{block_count, total_blocks}
use Rattle.base_122.specs.Ranges.{IsWithin, IsGeometryInRange, width_range, rows_range}
use Rattle.base_122.specs.declared.geometry.Geometry.{Geometry}
use Rattle.base_122.proofs.SizeBounds.{three-le-block_count}
use Rattle.wave_defs.proofs.ReachLaws.{rising-reach}
use Rattle.raster_rows.specs.Pixels.{pixel_octets, clamped, raster_octets}
use Rattle.raster_rows.proofs.RasterLaws.{row_pixels, rows_from}
use Rattle.stream_defs.specs.Picture.{picture_of, whole_with}
use Rattle.stream_defs.specs.Settled.{rows_through, block_rows_before}
use Rattle.picture_rows.specs.Prefixes.{bands_of, rows_of}

-- ---- rasters whose pixels are the same

-- a row
pixels_same : (width from : ℕ) (f h : ℕ → ℤ) → ((j : ℕ) → j < from + width → f j ≡ h j) → map f (range_with_len from width) ≡ map h (range_with_len from width)
pixels_same zero from f h same = refl
pixels_same (suc width) from f h same =
    ap (λ x. x ∷ map f (range_with_len (from + 1) width)) (same from (omega arith))
    ∙ ap (λ xs. h from ∷ xs) (pixels_same width (from + 1) f h (λ j lt. same j (omega (arith, lt))))

-- some rows
rows_same : (depth width n from : ℕ) (a b : ℕ → ℕ → ℤ) → ((i j : ℕ) → i < from + n → j < width → a i j ≡ b i j) →
    rows_from depth width a from n ≡ rows_from depth width b from n
rows_same depth width zero from a b same = refl
rows_same depth width (suc n) from a b same =
    ap (λ row. pixel_octets depth row ++ rows_from depth width a (from + 1) n)
    (pixels_same width 0 (a from) (b from) (λ j lt. same from j (omega arith) (omega (arith, lt))))
    ∙ ap (λ rest. pixel_octets depth (row_pixels width (b from)) ++ rest)
    (rows_same depth width n (from + 1) a b (λ i j lt inside. same i j (omega (arith, lt)) inside))

-- ---- the first rows, of either height

-- n block rows that aren't all determine these rows
through_open : (rows n : ℕ) → n < block_count rows → (if n == block_count rows then rows else 8 * n - 21) ≡ 8 * n - 21
through_open rows n lt = let other : (n == block_count rows) ≡ false = grind (arith, nat_tests) in rw other refl

module _ (g : Geometry) (h : ℕ) (numbers : ℕ → ℕ → ℤ) (wide : IsWithin width_range g.width) (fewer : h ≤ g.rows) where
  abbrev pub shorter : Geometry
  shorter = record g { rows = h }

  -- the rows that n block rows determine, if they aren't all of the lower picture
  pub rows_of_shorter : (n k : ℕ) → n < block_count h → k ≤ 8 * n - 21 → rows_of g numbers k ≡ rows_of shorter numbers k
  unfolding rows_of picture_of
  rows_of_shorter n k lt le =
      let c = block_count g.width in
      let three = three-le-block_count g.width wide.0 in
      let bands = bands_of g numbers in
      let here : min k g.rows ≡ k = omega (arith, lt, le, fewer) in
      let there : k ≡ min k h = omega (arith, lt, le) in
      let pixel : (i j : ℕ) → i < 0 + k → j < g.width → whole_with g numbers i j ≡ whole_with shorter numbers i j =
      λ i j above inside. ap (clamped g.depth g.signed)
      (rising-reach bands bands (block_count g.rows) (block_count h) c n i j (omega (arith, lt, fewer)) (omega (arith, lt)) (omega (arith, three))
      (omega (arith, above, le)) (omega (arith, inside)) (λ t s less across. record { at = λ i small. refl })) in
      ap (λ n. raster_octets g.depth n g.width (whole_with g numbers)) here
      ∙ rows_same g.depth g.width k 0 (whole_with g numbers) (whole_with shorter numbers) pixel
      ∙ ap (λ n. raster_octets g.depth n g.width (whole_with shorter numbers)) there

  -- so the rows that are determined before a block of the lower picture are the same
  pub rows_of_shorter-blocks : (b : ℕ) → b < total_blocks g.width h → rows_of shorter numbers (rows_through shorter (block_rows_before shorter b))
      ≡ rows_of g numbers (rows_through g (block_rows_before g b))
  rows_of_shorter-blocks b lt =
      let c = block_count g.width in
      let three = three-le-block_count g.width wide.0 in
      let turned : c * block_count h ≡ block_count h * c = grind arith in
      let low : b / c < block_count h = div_below b c (block_count h) (omega (arith, three)) (omega (arith, lt, turned)) in
      ap (rows_of shorter numbers) (through_open h (b / c) low)
      ∙ sym (rows_of_shorter (b / c) (8 * (b / c) - 21) low (omega arith))
      ∙ ap (rows_of g numbers) (sym (through_open g.rows (b / c) (omega (arith, low, fewer))))

-- and they are the same for a picture that differs from it in its height alone
pub rows_of_ended : (g h : Geometry) (n : ℕ) (numbers : ℕ → ℕ → ℤ) → IsGeometryInRange h → IsWithin rows_range h.rows → h ≡ record g { rows = h.rows } →
    h.rows ≤ g.rows →
    n < total_blocks h.width h.rows → rows_of h numbers (rows_through h (block_rows_before h n)) ≡ rows_of g numbers (rows_through g (block_rows_before g n))
rows_of_ended g h n numbers range within same fewer lt =
    let width : h.width ≡ g.width = ap (λ (k : Geometry). k.width) same in
    let wide : IsWithin width_range g.width = subst (IsWithin width_range) width range.width in
    let inside : n < total_blocks g.width h.rows = subst (λ w. n < total_blocks w h.rows) width lt in
    ap (λ (k : Geometry). rows_of k numbers (rows_through k (block_rows_before k n))) same ∙ rows_of_shorter-blocks g h.rows numbers wide fewer n inside
