-- Numbers as single bits.
use Rattle.std.proofs.Common.{◌≡◌, ℕ, ◌/◌, ◌%◌, ◌^◌, ◌<◌, ℤ, pos, [], ◌∷◌, eqb, ap, sym, ◌∙◌, arith, bit_and, nat_abs, ◌≤ℤ◌}
use Rattle.std.specs.Int.{int_shr}
use mir.Val.{to_z, of_z, SFits}
use mir.Syntax.{w32}
use Rattle.std.proofs.lemmas.Int.{to_z-of_z}
use Rattle.std.proofs.lemmas.Nat.{and_mask, shr_le}
use Rattle.std.proofs.lemmas.Bool.Decides.{nat_tests}
use Rattle.item_defs.specs.Bits.{bit, bits_of}
use Rattle.item_defs.proofs.NumberBits.{bits_cons, bits_none}
use Rattle.item_defs.specs.TwosComplement.{complement}

one_bit : (n : ℕ) → bits_of 1 n ≡ bit n 0 ∷ []
one_bit n = bits_cons 0 n ∙ ap (λ r. bit n 0 ∷ r) (bits_none n)

low_bit : (n m : ℕ) → n % 2 ≡ m → m < 2 → eqb (bit_and n 1) 1 ≡ bit m 0
low_bit n m e lt =
    let mask : bit_and n 1 ≡ n % 2 = and_mask n 1 in
    let same : m / 2 ^ 0 % 2 ≡ m = omega arith in
    ap (λ k. eqb k 1) (mask ∙ e ∙ sym same)

shifted_bit : (z : ℤ) (plane : ℕ) → SFits w32 z → eqb (bit_and (of_z w32 (int_shr z plane)) 1) 1 ≡ bit (complement 1 (int_shr z plane)) 0
shifted_bit z plane fits = grind (arith, nat_tests, low_bit, shr_le)

-- what the code tests of a cell
pub plane_bit : (z : ℤ) (plane : ℕ) → SFits w32 z → eqb (bit_and (of_z w32 (int_shr (to_z w32 (of_z w32 z)) plane)) 1) 1 ∷ []
    ≡ bits_of 1 (complement 1 (int_shr z plane))
plane_bit z plane fits = grind (arith, nat_tests, to_z-of_z, shifted_bit, one_bit)

-- a depth of 0 or 1
pub depth_bit : (z : ℤ) → pos 0 ≤ℤ z → z ≤ℤ pos 1 → eqb (of_z w32 z) 1 ∷ [] ≡ bits_of 1 (nat_abs z)
depth_bit z low high = grind (arith, nat_tests, one_bit)
