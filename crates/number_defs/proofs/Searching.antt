-- Tests of the numbers of a range.
use Rattle.std.proofs.Common.{◌≡◌, ℕ, zero, suc, ◌+◌, ◌<◌, ◌≤◌, Bool, true, false, eqb, refl, sym, ap, ◌∙◌, arith, ◌&&◌, find, Some}
use Rattle.std.specs.List.{range_with_len, list_all}
use Rattle.std.proofs.lemmas.Bool.Decides.{nat_tests}

pub all_of_range : (p : ℕ → Bool) (a n : ℕ) → ((j : ℕ) → a ≤ j → j < a + n → p j ≡ true) → list_all p (range_with_len a n) ≡ true
all_of_range p a zero h = refl
all_of_range p a (suc n) h =
    rw (h a (omega arith) (omega arith)) (all_of_range p (a + 1) n (λ j le lt. h j (omega arith) (omega arith)))

pub not_all_of_range : (p : ℕ → Bool) (a n j : ℕ) → a ≤ j → j < a + n → p j ≡ false → list_all p (range_with_len a n) ≡ false
not_all_of_range p a zero j le lt e = absurd (omega arith)
not_all_of_range p a (suc n) j le lt e =
    elim (p a) as (λ t. p a ≡ t → (t && list_all p (range_with_len (a + 1) n)) ≡ false) [
      | true ↦ λ q.
          elim (eqb a j) as (λ t. eqb a j ≡ t → list_all p (range_with_len (a + 1) n) ≡ false) [
            | true ↦ λ s. let same : a ≡ j = grind (arith, nat_tests) in absurd (let r : true ≡ false = sym q ∙ ap p same ∙ e in cc)
            | false ↦ λ s. let past : a + 1 ≤ j = grind (arith, nat_tests) in not_all_of_range p (a + 1) n j past (omega arith) e
          ] refl
      | false ↦ λ q. refl
    ] refl

pub first_of_range : (p : ℕ → Bool) (a n j : ℕ) → a ≤ j → j < a + n → p j ≡ true → ((i : ℕ) → a ≤ i → i < j → p i ≡ false) →
    find p (range_with_len a n) ≡ Some j
first_of_range p a zero j le lt e h = absurd (omega arith)
first_of_range p a (suc n) j le lt e h =
    elim (eqb a j) as (λ t. eqb a j ≡ t → find p (range_with_len a (suc n)) ≡ Some j) [
      | true ↦ λ s. let same : a ≡ j = grind (arith, nat_tests) in rw (same, e) refl
      | false ↦ λ s.
          let past : a + 1 ≤ j = grind (arith, nat_tests) in
          rw (h a (omega arith) (omega arith)) (first_of_range p (a + 1) n j past (omega arith) e (λ i q r. h i (omega arith) r))
    ] refl
