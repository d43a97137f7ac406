-- The pixels of the image of some rows are in range, also those of rows that weren't taken, which are 0.
use Rattle.std.proofs.Common.{◌≡◌, ◌≤◌, ◌+◌, ◌*◌, ◌^◌, ℕ, pos, Bool, true, false, nat_le, nat_lt, List, length, get_or, refl, sym, ap, subst, arith, inl}
use Rattle.std.proofs.Common.{inr, if◌then◌else◌, mul-le-mul_right}
use Rattle.std.proofs.lemmas.Bool.{cases_lt}
use Rattle.std.proofs.lemmas.Bool.Decides.{nat_tests}
use Rattle.std.proofs.lemmas.Int.{ints}
use Rattle.std.proofs.lemmas.List.{get_or_past}
use Rattle.base_122.specs.declared.setting.Setting.{Setting}
use Rattle.raster_rows.specs.Pixels.{IsPixel, number_at, pixel_at, pixel_size, value_of}
use Rattle.strip_decoder.specs.Images.{ArePixels}
use Rattle.strip_coder.specs.Rasters.{row_length, image_of, AreInRange}
use Rattle.strip_coder.proofs.RowsTakenLaws.{row_pixels}

-- ---- no octets are there

number_past : (b : Bool) (octets : List ℕ) (place : ℕ) → length octets ≤ place * (if b then 1 else 2) →
    (if b then get_or octets place 0 else 256 * get_or octets (2 * place) 0 + get_or octets (2 * place + 1) 0) ≡ 0
number_past true octets place past = get_or_past octets place 0 (omega (arith, past))
number_past false octets place past =
    let high = get_or_past octets (2 * place) 0 (omega (arith, past)) in
    let low = get_or_past octets (2 * place + 1) 0 (omega (arith, past)) in
    omega (arith, high, low)

weight_some : (b : Bool) → nat_lt 0 (if b then 2 ^ 7 else 2 ^ 15) ≡ true
weight_some b = grind (arith, nat_tests)

value_none : (depth : ℕ) (signed : Bool) → value_of depth signed 0 ≡ pos 0
value_none depth true = rw (weight_some (nat_le depth 8)) refl
value_none depth false = refl

zero_pixel : (depth : ℕ) (signed : Bool) → IsPixel depth signed (pos 0)
zero_pixel depth true = record { low = grind (arith, ints); high = grind (arith, ints) }
zero_pixel depth false = record { low = grind (arith, ints); high = grind (arith, ints) }

module _ (s : Setting) (k : ℕ) (taken : List ℕ) (whole : length taken ≡ k * row_length s) (in_range : AreInRange s taken (k * s.width)) where
  past : (place : ℕ) → k * s.width ≤ place → IsPixel s.depth s.signed (pixel_at s.depth s.signed taken place)
  past place ge =
      let size = pixel_size s.depth in
      let octets : k * s.width * size ≤ place * size = mul-le-mul_right size ge in
      let none : number_at s.depth taken place ≡ 0 = number_past (nat_le s.depth 8) taken place (omega (arith, octets, row_pixels s k taken whole)) in
      subst (IsPixel s.depth s.signed) (sym (ap (value_of s.depth s.signed) none)) (subst (IsPixel s.depth s.signed) (sym (value_none s.depth s.signed))
      (zero_pixel s.depth s.signed))

  pub raster_pixels : (rows : ℕ) → ArePixels s rows (image_of s taken)
  raster_pixels rows = record {
    at = λ i j row column. elim (cases_lt (i * s.width + j) (k * s.width)) [
      | inl lt ↦ in_range.each (i * s.width + j) lt
      | inr ge ↦ past (i * s.width + j) ge
    ];
  }
