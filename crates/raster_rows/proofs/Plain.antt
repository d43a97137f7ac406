-- Values that are pixels without a sign, by the bits that they have together.
use Rattle.std.proofs.Common.{◌≡◌, ◌<◌, ◌≤◌, ◌^◌, ℕ, ℤ, pos, negsuc, Bool, true, false, List, length, get_or, SFits, w64, of_z, refl, arith, leb-true, pow_mono}
use Rattle.std.specs.Bool.{OnTrue}
use lib.Dec.{leb}
use Rattle.std.proofs.lemmas.Int.{ints}
use Rattle.raster_rows.specs.Pixels.{IsDepth, IsPixel, greatest_pixel}
use Rattle.raster_rows.specs.Pieces.{ArePlain}

-- a value whose bits are at most the greatest pixel is one
plain_value : (depth : ℕ) (value : ℤ) (bits most : ℕ) → IsDepth depth → pos most ≡ greatest_pixel depth false → SFits w64 value → of_z w64 value ≤ bits →
    bits ≤ most →
    IsPixel depth false value
plain_value depth (pos n) bits most is most_is fits le few = record { low = omega (arith, ints); high = omega (arith, ints, most_is, le, few) }
plain_value depth (negsuc n) bits most is most_is fits le few =
    let whole : 2 ^ depth ≤ 2 ^ 16 = pow_mono is.1 in
    absurd (omega (arith, ints, most_is, le, few, fits.sfits, whole))

-- what follows from an order, if its test holds
on_order : {P : Type 0} (a b : ℕ) (t : Bool) → leb a b ≡ t → (a ≤ b → P) → OnTrue t P
on_order a b true e f = f (leb-true a b e)
on_order a b false e f = tt

-- all values are pixels if all their bits are at most the greatest one
pub all_plain : (depth : ℕ) (signed : Bool) (values : List ℤ) (bits most : ℕ) → IsDepth depth → signed ≡ false → pos most ≡ greatest_pixel depth signed →
    ((k : ℕ) → k < length values → SFits w64 (get_or values k (pos 0)) × (of_z w64 (get_or values k (pos 0)) ≤ bits)) →
    OnTrue (leb bits most) (ArePlain depth signed values)
all_plain depth true values bits most is plain most_is each = absurd cc
all_plain depth false values bits most is plain most_is each = on_order bits most (leb bits most) refl (λ few. record {
  plain = refl;
  each = λ k h. let here = each k h in plain_value depth (get_or values k (pos 0)) bits most is most_is here.0 here.1 few;
})
