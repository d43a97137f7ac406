-- A test that all numbers of a range pass, at one of them.
use Rattle.std.proofs.Common.{◌≡◌, ℕ, true, arith, ◌==◌}

pub same_from_test : (a b : ℕ) → (a == b) ≡ true → a ≡ b
same_from_test a b h = grind arith
