-- The word of a window's first bits.
use Rattle.std.proofs.Common.{◌≡◌, ℕ, ◌+◌, ◌-◌, ◌/◌, ◌<◌, ◌≤◌, ◌^◌, true, ap, sym, ◌∙◌, arith, mod-eq_of_lt, pow_mono, count_ones, nat_le}
use Rattle.std.specs.List.{list_all}
use Rattle.std.proofs.lemmas.Bool.Decides.{nat_tests}
use Rattle.std.proofs.lemmas.Nat.{shr-shr, shr_below}
use Rattle.item_defs.specs.Bits.{bits_of, value_of}
use Rattle.item_defs.proofs.NumberBits.{value_of-bits_of}
use Rattle.plane_defs.specs.Spans.{span}
use Rattle.plane_defs.proofs.Tables.{list_all-span-zero}
use Rattle.plane_defs.proofs.Equations.{span-none, span-more}
use Rattle.bit_pipe.specs.Windows.{first_of}

-- the word of a window's first bits
module _ (window word due : ℕ) (fits : window < 2 ^ 64) (is : word ≡ window / 2 / 2 ^ (63 - due)) (few : due ≤ 4) where
  word_is : word ≡ window / 2 ^ (64 - due)
  word_is = let e : 1 + (63 - due) ≡ 64 - due = omega (arith, few) in is ∙ shr-shr window 1 (63 - due) ∙ ap (λ n. window / 2 ^ n) e

  word_below : word < 2 ^ due
  word_below = let e : due + (64 - due) ≡ 64 = omega (arith, few) in rw word_is (shr_below window due (64 - due) (rw e fits))

  pub word_small : word < 16
  word_small = let most : 2 ^ due ≤ 2 ^ 4 = pow_mono few in omega (arith, word_below, most)

  pub word_value : value_of (first_of due window) ≡ word
  word_value = ap (λ n. value_of (bits_of due n)) (sym word_is) ∙ value_of-bits_of due word ∙ mod-eq_of_lt word_below

few_ones_all : list_all (λ n. nat_le (count_ones n) 4) (span 0 16) ≡ true
unfolding lib.Count.ones
few_ones_all = grind (arith, nat_tests, span-none, span-more)

pub few_ones : (n : ℕ) → n < 16 → count_ones n ≤ 4
few_ones n lt = from_test (count_ones n) 4 (list_all-span-zero (λ n. nat_le (count_ones n) 4) 16 n few_ones_all lt)
  where
    from_test : (a b : ℕ) → nat_le a b ≡ true → a ≤ b
    from_test a b e = grind (arith, nat_tests)
