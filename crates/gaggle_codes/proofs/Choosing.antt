-- How an option is chosen by the total.
use Rattle.std.proofs.Common.{◌≡◌, ℕ, zero, suc, ◌+◌, ◌*◌, ◌-◌, ◌^◌, ◌<◌, ◌≤◌, arith, sub-one}
use Rattle.std.proofs.lemmas.Bool.Decides.{nat_tests}
use Rattle.number_defs.specs.Choice.{greatest_suiting, by_total}
use Rattle.number_defs.proofs.Suiting.{greatest_suiting-taken, greatest_suiting-passed, greatest_suiting-none}
use Rattle.gaggle_codes.specs.Options.{name_of}
use Rattle.gaggle_codes.proofs.Names.{name_k}

pub suits_less : (count total k : ℕ) → 0 < k → 128 * total + 49 * count < count * 2 ^ (k + 7) →
    greatest_suiting count total k ≡ greatest_suiting count total (k - 1)
suits_less count total k lt over = grind (arith, nat_tests, sub-one, greatest_suiting-passed)

pub suits_here : (count total k : ℕ) → count * 2 ^ (k + 7) ≤ 128 * total + 49 * count → greatest_suiting count total k ≡ k
suits_here count total zero fits = greatest_suiting-none count total
suits_here count total (suc k) fits = grind (arith, nat_tests, greatest_suiting-taken)

pub suits_none : (count total k : ℕ) → k ≤ 0 → greatest_suiting count total k ≡ k
suits_none count total zero le = greatest_suiting-none count total
suits_none count total (suc k) le = absurd (omega arith)

module _ (N count total : ℕ) where
  pub takes_k : (k : ℕ) → 2 ≤ N → N ≤ 10 → k ≤ N - 2 → 64 * total < 23 * count * 2 ^ N → 207 * count ≤ 128 * total → greatest_suiting count total (N - 2)
      ≡ k → k ≡ name_of N (by_total N count total)
  takes_k k low high le p q e = grind (arith, nat_tests, name_k)
