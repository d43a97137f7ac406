-- Pixels that are put into a row, one after another.
use Rattle.std.proofs.Common.{◌≡◌, ◌<◌, ◌+◌, ◌≢◌, below_more, get_or-set_same, get_or-set_other, ℕ, ℤ, pos, Bool, true, false, ◌&&◌, List, length, get_or}
use Rattle.std.proofs.Common.{refl, subst, arith, ◌∙◌, set, length-set}
use Rattle.std.specs.Bool.{OnTrue}
use Rattle.raster_rows.specs.Pixels.{IsPixel, pixel_at}
use Rattle.raster_rows.specs.RowReads.{FirstInRange}
use Rattle.raster_rows.specs.Pieces.{PixelsPut}

-- one more pixel
pub one_put : (depth : ℕ) (signed : Bool) (octets : List ℕ) (column n : ℕ) (value : ℤ) (before mid : List ℤ) →
    PixelsPut depth signed octets column n before mid → column + n < length mid → value ≡ pixel_at depth signed octets n → IsPixel depth signed value →
    PixelsPut depth signed octets column (n + 1) before (set mid (column + n) value)
one_put depth signed octets column n value before mid p lt is here =
    let set_here : get_or (set mid (column + n) value) (column + n) (pos 0) ≡ value = get_or-set_same mid (column + n) value (pos 0) lt in
    record {
      in_range = below_more (λ k. IsPixel depth signed (pixel_at depth signed octets k)) n p.in_range (subst (λ v. IsPixel depth signed v) is here);
      put = below_more (λ k. get_or (set mid (column + n) value) (column + k) (pos 0) ≡ pixel_at depth signed octets k) n
          (λ k le. let ne : column + k ≢ column + n = omega arith in get_or-set_other mid (column + n) (column + k) value (pos 0) ne ∙ p.put k le)
          (set_here ∙ is);
      below = λ k le. let ne : k ≢ column + n = omega arith in get_or-set_other mid (column + n) k value (pos 0) ne ∙ p.below k le;
      above = λ k le. let ne : k ≢ column + n = omega arith in get_or-set_other mid (column + n) k value (pos 0) ne ∙ p.above k (omega arith);
      same = length-set mid (column + n) value ∙ p.same;
    }

-- a fact that follows from two others, if both of their tests hold
both_held : {P Q R : Type 0} (a b : Bool) → OnTrue a P → (b ≡ true → Q) → (P → Q → R) → OnTrue (a && b) R
both_held true true p q f = f p (q refl)
both_held true false p q f = tt
both_held false b p q f = tt

-- one more pixel that is tested
pub one_tested : (depth : ℕ) (signed : Bool) (octets : List ℕ) (n : ℕ) (value : ℤ) (all holds : Bool) → value ≡ pixel_at depth signed octets n →
    OnTrue all (FirstInRange depth signed octets n) → (holds ≡ true → IsPixel depth signed value) →
    OnTrue (all && holds) (FirstInRange depth signed octets (n + 1))
one_tested depth signed octets n value all holds is before here = both_held all holds before here (λ p q. record {
  each = below_more (λ k. IsPixel depth signed (pixel_at depth signed octets k)) n p.each (subst (λ v. IsPixel depth signed v) is q);
})
