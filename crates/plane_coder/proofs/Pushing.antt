-- Bits put after other bits in a number.
use Rattle.std.proofs.Common.{◌≡◌, ℕ, ◌+◌, ◌*◌, ◌%◌, ◌^◌, ◌<◌, ◌≤◌, ◌++◌, bit_or, ap, sym, ◌∙◌, arith, mod-eq_of_lt, mul-le-mul_right, pow_mono}
use Rattle.std.proofs.lemmas.Nat.{or_shifted, pow-add}
use Rattle.std.proofs.lemmas.Bool.Decides.{nat_tests}
use Rattle.item_defs.specs.Bits.{bits_of}
use Rattle.item_defs.proofs.NumberBits.{bits_join}

module _ (a b m n : ℕ) (fits : a < 2 ^ m) (small : b < 2 ^ n) where
  pub joined_below : a * 2 ^ n + b < 2 ^ (m + n)
  joined_below = grind (arith, nat_tests, mul-le-mul_right, pow-add)

  pub joined : m + n ≤ 64 → bit_or (a * 2 ^ n % 18446744073709551616) b ≡ a * 2 ^ n + b
  joined room =
      let most : 2 ^ (m + n) ≤ 2 ^ 64 = pow_mono room in
      let whole : a * 2 ^ n % 18446744073709551616 ≡ a * 2 ^ n = mod-eq_of_lt (omega (arith, joined_below, most)) in
      ap (λ x. bit_or x b) whole ∙ or_shifted a n b small

  pub joined_bits : bits_of (m + n) (a * 2 ^ n + b) ≡ bits_of m a ++ bits_of n b
  joined_bits = sym (bits_join m n a b small)
