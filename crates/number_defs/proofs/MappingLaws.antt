-- Mapped values and numbers after a number undo each other.
use Rattle.std.proofs.Common.{◌≡◌, ℕ, ◌^◌, ◌<◌, arith}
use Rattle.std.proofs.lemmas.Bool.Decides.{nat_tests}
use Rattle.number_defs.specs.Mapping.{mapped, unmapped}

pub mapped_below : (N p c : ℕ) → p < 2 ^ N → c < 2 ^ N → mapped N p c < 2 ^ N
unfolding mapped
mapped_below N p c lp lc = grind (arith, nat_tests)

pub unmapped_below : (N p v : ℕ) → p < 2 ^ N → v < 2 ^ N → unmapped N p v < 2 ^ N
unfolding unmapped
unmapped_below N p v lp lv = grind (arith, nat_tests)

pub mapped_back : (N p c : ℕ) → p < 2 ^ N → c < 2 ^ N → unmapped N p (mapped N p c) ≡ c
unfolding mapped unmapped
mapped_back N p c lp lc = grind (arith, nat_tests)

pub unmapped_back : (N p v : ℕ) → p < 2 ^ N → v < 2 ^ N → mapped N p (unmapped N p v) ≡ v
unfolding mapped unmapped
unmapped_back N p v lp lv = grind (arith, nat_tests)
