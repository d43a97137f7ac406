-- The first number that passes a test, found one after another.
use Rattle.std.proofs.Common.{◌≡◌, ◌≤◌, ◌<◌, ◌+◌, ◌-◌, ℕ, suc, ap, ◌∙◌, arith, Bool, true, false, Option, Some, None}
use Rattle.std.proofs.lemmas.Bool.Decides.{nat_tests}
use Rattle.code_book.specs.Tests.{first_from}

module _ (test : ℕ → Bool) where
  here : (i n : ℕ) → 0 < n → test i ≡ true → first_from test i n ≡ Some i
  here i n some e = grind (arith, nat_tests)

  next : (i n m : ℕ) → n ≡ suc m → test i ≡ false → first_from test i n ≡ first_from test (i + 1) m
  next i n m e f = grind (arith, nat_tests)

  none : (i n : ℕ) → n ≡ 0 → first_from test i n ≡ None
  none i n e = ap (first_from test i) e

  -- what is the first from i on, up to a bound
  pub found : (first : Option ℕ) (i bound : ℕ) → first ≡ first_from test i (bound - i) → i < bound → test i ≡ true → first ≡ Some i
  found first i bound so_far lt e = so_far ∙ here i (bound - i) (omega (arith, lt)) e

  pub past : (first : Option ℕ) (i bound : ℕ) → first ≡ first_from test i (bound - i) → i < bound → test i ≡ false →
      first ≡ first_from test (i + 1) (bound - (i + 1))
  past first i bound so_far lt e = so_far ∙ next i (bound - i) (bound - (i + 1)) (omega (arith, lt)) e

  pub nowhere : (first : Option ℕ) (i bound : ℕ) → first ≡ first_from test i (bound - i) → bound ≤ i → first ≡ None
  nowhere first i bound so_far le = so_far ∙ none i (bound - i) (omega (arith, le))
