-- Rising numbers, and runs of consecutive ones.
use Rattle.std.proofs.Common.{◌≡◌, ◌+◌, ℕ, zero, suc, List, [], ◌∷◌, refl, ap, arith, Bool, ◌==◌, if◌then◌else◌, eq-eqb}
use Rattle.std.specs.List.{range_with_len}
use Rattle.std.proofs.lemmas.Bool.Decides.{nat_tests}
use Rattle.stream_defs.specs.Chosen.{IsRising, run}

-- a range rises
pub range_rises : (least n : ℕ) → IsRising least (least + n) (range_with_len least n)
range_rises least zero = tt
range_rises least (suc n) = grind (arith, nat_tests, range_rises (least + 1) n)

-- and its numbers are consecutive
pub run-range : (next n : ℕ) → run next (range_with_len next n) ≡ range_with_len next n
run-range next zero = refl
run-range next (suc n) = rw (eq-eqb next next refl) (ap (λ ks. next ∷ ks) (run-range (next + 1) n))

-- a run rises
pub run_rises : (least next below : ℕ) (ks : List ℕ) → IsRising least below ks → IsRising least below (run next ks)
run_rises least next below [] rising = tt
run_rises least next below (k ∷ ks) rising = grind (arith, nat_tests, run_rises (k + 1) (next + 1) below ks rising.2)

-- if a run has all numbers of a range, the rising numbers are that range
pub run_whole : (next n : ℕ) (ks : List ℕ) → IsRising next (next + n) ks → run next ks ≡ range_with_len next n → ks ≡ range_with_len next n
run_whole next zero [] rising e = refl
run_whole next zero (k ∷ ks) rising e = absurd (let low = rising.0 in let high = rising.1 in omega (arith, low, high))
run_whole next (suc n) [] rising e = cc
run_whole next (suc n) (k ∷ ks) rising e = by_test (k == next) refl e (λ r f. run_whole (next + 1) n ks r f)
  where
    by_test : (b : Bool) → (k == next) ≡ b → (if b then k ∷ run (next + 1) ks else []) ≡ next ∷ range_with_len (next + 1) n →
        (IsRising (next + 1) (next + 1 + n) ks → run (next + 1) ks ≡ range_with_len (next + 1) n → ks ≡ range_with_len (next + 1) n) →
        k ∷ ks ≡ next ∷ range_with_len (next + 1) n
    by_test b t f rest = grind (arith, nat_tests)
