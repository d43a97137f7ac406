-- Rows of a raster that are taken one after another.
use Rattle.std.proofs.Common.{◌≡◌, ◌+◌, ◌*◌, ◌∙◌, ℕ, ℤ, Bool, List, ◌++◌, length, sym, subst, arith, length-append}
use Rattle.std.proofs.Math.Nat.{add-mul-div_right}
use Rattle.std.proofs.lemmas.Bool.Decides.{nat_tests}
use Rattle.raster_rows.specs.Pixels.{IsPixel, pixel_size, pixel_at, whole_pixels}
use Rattle.raster_rows.specs.RowReads.{FirstInRange, IsFirstBad}
use Rattle.raster_rows.proofs.PixelPlaces.{size_some, pixel_at-append_right}
use Rattle.raster_rows.proofs.RowRuns.{earlier_pixel, both_parts}

-- how many whole pixels there are with those of octets that follow whole pixels
pub whole_pixels-append : (depth : ℕ) (xs ys : List ℕ) (n : ℕ) → length xs ≡ n * pixel_size depth → whole_pixels depth (xs ++ ys) ≡ n + whole_pixels depth ys
whole_pixels-append depth xs ys n len = grind (arith, nat_tests, length-append, add-mul-div_right, size_some)

-- pixels in range, and then more of them
pub FirstInRange-append : (depth : ℕ) (signed : Bool) (xs ys : List ℕ) (n m : ℕ) → length xs ≡ n * pixel_size depth →
    FirstInRange depth signed xs n → FirstInRange depth signed ys m → FirstInRange depth signed (xs ++ ys) (n + m)
FirstInRange-append depth signed xs ys n m len p q =
    let P : ℕ → Type 0 = λ k. IsPixel depth signed (pixel_at depth signed (xs ++ ys) k) in
    record {
      each = both_parts P n m
          (λ k lt. subst (IsPixel depth signed) (sym (earlier_pixel depth signed xs ys n k len lt)) (p.each k lt))
          (λ k lt. subst (IsPixel depth signed) (sym (pixel_at-append_right depth signed xs ys n k len)) (q.each k lt));
    }

-- pixels in range, and then the first that is not
pub IsFirstBad-append : (depth : ℕ) (signed : Bool) (xs ys : List ℕ) (n column : ℕ) (value : ℤ) → length xs ≡ n * pixel_size depth →
    FirstInRange depth signed xs n → IsFirstBad depth signed ys column value → IsFirstBad depth signed (xs ++ ys) (n + column) value
IsFirstBad-append depth signed xs ys n column value len p q = record {
  whole = omega (arith, whole_pixels-append depth xs ys n len, q.whole);
  value_is = q.value_is ∙ sym (pixel_at-append_right depth signed xs ys n column len);
  bad = q.bad;
  earlier = FirstInRange-append depth signed xs ys n column len p q.earlier;
}

-- if all whole pixels are in range, no pixel is out of range
pub none_bad : {depth column : ℕ} {signed : Bool} {octets : List ℕ} {value : ℤ} →
    FirstInRange depth signed octets (whole_pixels depth octets) → IsFirstBad depth signed octets column value → ⊥
none_bad {depth = depth} {column = column} {signed = signed} p q = q.bad (subst (IsPixel depth signed) (sym q.value_is) (p.each column q.whole))
