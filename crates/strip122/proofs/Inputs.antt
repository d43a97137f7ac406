-- The effect of the given raster on a run of an encoder.
use Rattle.std.proofs.Common.{◌≡◌, ◌≤◌, ◌+◌, ◌*◌, ◌%◌, ℕ, ℤ, Bool, true, false, List, ◌++◌, length, sym, ◌∙◌, ap, subst, inl, inr, arith, length-append}
use Rattle.std.proofs.Common.{refl, ◌==◌, if◌then◌else◌}
use Rattle.std.proofs.lemmas.Bool.{false≢true, eq-eqb, ne_eqb}
use Rattle.std.proofs.Math.Nat.{div-mul-le_self, mul-le-mul_right, mul-mod_left}
use Rattle.base_122.specs.Ranges.{rows_range}
use Rattle.base_122.specs.Setting.{IsHeight}
use Rattle.base_122.specs.declared.setting.Setting.{Setting}
use Rattle.raster_rows.specs.Pixels.{IsPixel, pixel_at, whole_pixels, pixel_size}
use Rattle.raster_rows.specs.RowReads.{IsFirstBad, FirstInRange}
use Rattle.raster_rows.proofs.PixelPlaces.{pixel_at-append_left, whole_before, whole_pixels-above}
use Rattle.strip_coder.specs.Rasters.{row_length, most_length, LacksRows}

-- a pixel out of range in a part of an input is one in all of it
pub not_in_range : (depth : ℕ) (signed : Bool) (took rest : List ℕ) (place : ℕ) (value : ℤ) → IsFirstBad depth signed took place value →
    FirstInRange depth signed (took ++ rest) (whole_pixels depth (took ++ rest)) → ⊥
not_in_range depth signed took rest place value bad all =
    let whole : (place + 1) * pixel_size depth ≤ length took =
    omega (arith, whole_before (pixel_size depth) place (whole_pixels depth took) bad.whole, div-mul-le_self (length took) (pixel_size depth)) in
    let more : (place + 1) * pixel_size depth ≤ length (took ++ rest) = omega (arith, whole, length-append took rest) in
    let same : pixel_at depth signed (took ++ rest) place ≡ value = pixel_at-append_left depth signed took rest place whole ∙ sym bad.value_is in
    bad.bad (subst (IsPixel depth signed) same (all.each place (whole_pixels-above depth (took ++ rest) place more)))

-- no rows of the raster of an image are missing
pub none_lacking : (s : Setting) (rows octets : ℕ) → IsHeight s rows → octets ≡ rows * row_length s → LacksRows s octets → ⊥
none_lacking s rows octets height whole lacks = elim height.1 [
  | inl none ↦ elim (lacks.left_open none) [
    | inl few ↦ let most : rows_range.least * row_length s ≤ rows * row_length s = mul-le-mul_right (row_length s) height.0.0 in omega (arith, few, most, whole)
    | inr cut ↦ cut (ap (λ n. n % row_length s) whole ∙ mul-mod_left rows (row_length s))
  ]
  | inr same ↦
      let known : (s.rows == 0) ≡ false = ne_eqb s.rows 0 (λ none. omega (arith, none, same, height.0)) in
      let tall : most_length s ≡ s.rows * row_length s = ap (λ b. (if b then rows_range.most else s.rows) * row_length s) known in
      omega (arith, lacks.fewer, tall, whole, ap (λ n. n * row_length s) same)
]

-- and has at most the octets of the tallest one
pub few_octets : (s : Setting) (rows : ℕ) → IsHeight s rows → rows * row_length s ≤ most_length s
few_octets s rows height = by (s.rows == 0) refl
  where
    by : (b : Bool) → (s.rows == 0) ≡ b → rows * row_length s ≤ (if b then rows_range.most else s.rows) * row_length s
    by true e = mul-le-mul_right (row_length s) height.0.1
    by false e = elim height.1 [
      | inl none ↦ absurd (false≢true (sym e ∙ eq-eqb s.rows 0 none))
      | inr same ↦ omega (arith, ap (λ n. n * row_length s) same)
    ]
