-- The DC is given the bit of a plane.
use Rattle.std.proofs.Common.{◌≡◌, ℕ, ◌+◌, ◌-◌, ◌*◌, ◌%◌, ◌<◌, ◌≤◌, ◌^◌, ap, sym, ◌∙◌, arith, ℤ, pos, negsuc, ◌+ℤ◌, to_z, of_z, w32, pow_mono}
use Rattle.std.proofs.Common.{mul-le-mul_left, pow_pos, pow-add, pow-suc, suc}
use Rattle.std.proofs.lemmas.Int.{ints, to_z-of_z, wrapping_add-bits, int_wrap_fits, fits_signed_from_abs, to_z_pos}
use Rattle.std.specs.Int.{int_wrap}
use Rattle.std.specs.Int.RustNames.{FitsSigned}
use mir.Val.{SFits}
use Rattle.std.proofs.lemmas.Bool.Decides.{nat_tests}
use Rattle.plane_reader.specs.Above.{HasNoneBelow}

pub pow_more : (plane : ℕ) → 2 ^ (plane + 1) ≡ 2 ^ plane + 2 ^ plane
pow_more plane = let e : plane + 1 ≡ suc plane = omega arith in let p = pow-suc 2 plane in ap (λ n. 2 ^ n) e ∙ omega (arith, p)

-- above a multiple there is room for all below the next one
room_above : (a k m : ℕ) → a * k < a * m → a * k + a ≤ a * m
room_above a k m lt = grind (arith, nat_tests, mul-le-mul_left)

pub fits_still : (z : ℤ) (plane : ℕ) → SFits w32 z → plane < 27 → HasNoneBelow (plane + 1) z → FitsSigned w32 (z +ℤ pos (2 ^ plane))
fits_still (pos n) plane fits low cleared =
    let all : (plane + 1) + (30 - plane) ≡ 31 = omega arith in
    let parts : 2 ^ (plane + 1) * 2 ^ (30 - plane) ≡ 2147483648 = sym (pow-add 2 (plane + 1) (30 - plane)) ∙ ap (λ k. 2 ^ k) all in
    let within : 2 ^ (plane + 1) * cleared.part < 2 ^ (plane + 1) * 2 ^ (30 - plane) = omega (arith, parts, cleared.whole, fits.sfits) in
    fits_signed_from_abs w32 (pos n +ℤ pos (2 ^ plane)) (omega (
      arith,
      room_above (2 ^ (plane + 1)) cleared.part (2 ^ (30 - plane)) within,
      parts,
      cleared.whole,
      pow_more plane,
      pow_pos plane,
    ))
fits_still (negsuc n) plane fits low cleared =
    let le : plane ≤ 26 = omega arith in
    let most : 2 ^ plane ≤ 2 ^ 26 = pow_mono le in
    both n (2 ^ plane) fits.sfits most
  where
    both : (n h : ℕ) → n < 2147483648 → h ≤ 67108864 → FitsSigned w32 (negsuc n +ℤ pos h)
    both n h small most = omega (arith, ints)

-- the sum as it is computed
pub sum_is : (z : ℤ) (plane : ℕ) → SFits w32 z → plane < 27 → to_z w32 (of_z w32 z) +ℤ to_z w32 (1 * 2 ^ plane % 4294967296) ≡ z +ℤ pos (2 ^ plane)
sum_is z plane fits low =
    let le : plane ≤ 26 = omega arith in
    let most : 2 ^ plane ≤ 2 ^ 26 = pow_mono le in
    let same : 1 * 2 ^ plane % 4294967296 ≡ 2 ^ plane = omega (arith, most) in
    (λ i. to_z-of_z w32 z fits i +ℤ (ap (to_z w32) same ∙ to_z_pos w32 (2 ^ plane) (omega (arith, most))) i)

-- the sum with the bit is within the type
pub dc_added : (z : ℤ) (plane : ℕ) → SFits w32 z → plane < 27 → HasNoneBelow (plane + 1) z → to_z w32
    ((of_z w32 z + 1 * 2 ^ plane % 4294967296) % 4294967296) ≡ z +ℤ pos (2 ^ plane)
dc_added z plane fits low cleared =
    let le : plane ≤ 26 = omega arith in
    let most : 2 ^ plane ≤ 2 ^ 26 = pow_mono le in
    let same : 1 * 2 ^ plane % 4294967296 ≡ 2 ^ plane = omega (arith, most) in
    ap (λ n. to_z w32 ((of_z w32 z + n) % 4294967296)) same ∙
    wrapping_add-bits w32 (of_z w32 z) (2 ^ plane) (below z fits) (omega (arith, most)) ∙
    ap (λ x. int_wrap w32 (x +ℤ to_z w32 (2 ^ plane))) (to_z-of_z w32 z fits) ∙
    ap (λ x. int_wrap w32 (z +ℤ x)) (to_z_pos w32 (2 ^ plane) (omega (arith, most))) ∙
    int_wrap_fits w32 (z +ℤ pos (2 ^ plane)) (fits_still z plane fits low cleared)
  where
    below : (z : ℤ) → SFits w32 z → of_z w32 z < 4294967296
    below z fits = omega (arith, ints)
