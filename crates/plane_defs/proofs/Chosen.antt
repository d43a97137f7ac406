-- A number is equal to itself.
use Rattle.std.proofs.Common.{◌≡◌, ℕ, true, arith, ◌==◌}
use Rattle.std.proofs.lemmas.Bool.Decides.{nat_tests}

pub equal_self : (p : ℕ) → (p == p) ≡ true
equal_self p = grind (arith, nat_tests)
