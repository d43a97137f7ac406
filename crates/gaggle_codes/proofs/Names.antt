-- Options by the number that represents them.
use Rattle.std.proofs.Common.{◌≡◌, ℕ, zero, suc, ◌-◌, ◌^◌, ◌<◌, ◌≤◌, true, refl, arith}
use Rattle.std.proofs.lemmas.Bool.Decides.{nat_tests}
use Rattle.item_defs.specs.Bits.{bits_of}
use Rattle.number_defs.specs.Gaggles.{identifier_bits, uncoded, is_option}
use Rattle.gaggle_codes.specs.Options.{name_of}
use Rattle.item_defs.proofs.NumberBits.{bits_none, bits_cons}

-- each k is below the option that is all ones
pub uncoded_above : (N : ℕ) → 2 ≤ N → N ≤ 10 → N - 2 < uncoded N
uncoded_above N low high = grind (arith, nat_tests)

pub uncoded_small : (N : ℕ) → uncoded N ≤ 15
uncoded_small N = grind (arith, nat_tests)

pub name_k : (N k : ℕ) → 2 ≤ N → N ≤ 10 → k ≤ N - 2 → k ≡ name_of N k
name_k N k low high le = grind (arith, nat_tests, uncoded_above)

pub name_uncoded : (N : ℕ) → 15 ≡ name_of N (uncoded N)
name_uncoded N = grind (arith, nat_tests)

pub name_small : (N option : ℕ) → N ≤ 10 → is_option N option ≡ true → name_of N option ≤ 15
name_small N option high is = grind (arith, nat_tests)

-- the low bits of 15 are all ones
ones : (w : ℕ) → w ≤ 4 → bits_of w 15 ≡ bits_of w (2 ^ w - 1)
ones zero le = simp (bits_none, bits_cons)
ones (suc zero) le = grind (arith, nat_tests, bits_none, bits_cons)
ones (suc (suc zero)) le = grind (arith, nat_tests, bits_none, bits_cons)
ones (suc (suc (suc zero))) le = grind (arith, nat_tests, bits_none, bits_cons)
ones (suc (suc (suc (suc zero)))) le = refl
ones (suc (suc (suc (suc (suc w))))) le = absurd (omega arith)

pub few_identifier_bits : (N : ℕ) → identifier_bits N ≤ 4
few_identifier_bits N = grind (arith, nat_tests)

-- an identifier's bits are those of the number that represents the option
pub name_bits : (N option : ℕ) → bits_of (identifier_bits N) option ≡ bits_of (identifier_bits N) (name_of N option)
name_bits N option = grind (arith, nat_tests, ones, few_identifier_bits)
