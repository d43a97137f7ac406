-- The greatest option that suits, by the options up to it.
use Rattle.std.proofs.Common.{◌≡◌, ℕ, zero, suc, ◌+◌, ◌≤◌, List, [], ◌∷◌, ◌++◌, true, false, refl, ap, ◌∙◌, arith, append-nil, Option, Some, None, filter}
use Rattle.std.specs.List.{range_with_len, last_or}
use Rattle.std.proofs.lemmas.Bool.Decides.{nat_tests}
use Rattle.std.proofs.lemmas.List.Elements.{filter-append}
use Rattle.number_defs.specs.Choice.{suits, greatest_suiting}

range_more : (a n : ℕ) → range_with_len a (suc n) ≡ range_with_len a n ++ (a + n) ∷ []
range_more a zero = let e : a ≡ a + 0 = omega arith in ap (λ b. b ∷ []) e
range_more a (suc n) =
    let e : a + 1 + n ≡ a + suc n = omega arith in
    ap (λ xs. a ∷ xs) (range_more (a + 1) n ∙ ap (λ b. range_with_len (a + 1) n ++ b ∷ []) e)

last-more : {A : Type 0} (o : Option A) (xs : List A) (x : A) → last_or o (xs ++ x ∷ []) ≡ Some x
last-more o [] x = refl
last-more o (y ∷ ys) x = last-more (Some y) ys x

module _ (count total : ℕ) where
  -- the options that suit, up to one more
  more_suiting : (k : ℕ) → filter (suits count total) (range_with_len 0 (suc k + 1)) ≡ filter (suits count total) (range_with_len 0 (k + 1))
      ++ filter (suits count total) ((suc k) ∷ [])
  more_suiting k =
      let n : suc k + 1 ≡ suc (suc k) = omega arith in
      let m : suc k ≡ k + 1 = omega arith in
      let zeroth : 0 + suc k ≡ suc k = omega arith in
      ap (λ i. filter (suits count total) (range_with_len 0 i)) n
      ∙ ap (filter (suits count total)) (range_more 0 (suc k) ∙ ap (λ i. range_with_len 0 (suc k) ++ i ∷ []) zeroth)
      ∙ filter-append (suits count total) (range_with_len 0 (suc k)) ((suc k) ∷ [])
      ∙ ap (λ i. filter (suits count total) (range_with_len 0 i) ++ filter (suits count total) ((suc k) ∷ [])) m

  pub greatest_suiting-taken : (k : ℕ) → suits count total (suc k) ≡ true → greatest_suiting count total (suc k) ≡ suc k
  unfolding greatest_suiting
  greatest_suiting-taken k e = rw (more_suiting k, e, last-more {A = ℕ} None (filter (suits count total) (range_with_len 0 (k + 1))) (suc k)) refl

  pub greatest_suiting-passed : (k : ℕ) → suits count total (suc k) ≡ false → greatest_suiting count total (suc k) ≡ greatest_suiting count total k
  unfolding greatest_suiting
  greatest_suiting-passed k e = rw (more_suiting k, e, append-nil (filter (suits count total) (range_with_len 0 (k + 1)))) refl

  pub greatest_suiting-none : greatest_suiting count total 0 ≡ 0
  unfolding greatest_suiting
  greatest_suiting-none = grind (arith, nat_tests)

  pub greatest_within : (k : ℕ) → greatest_suiting count total k ≤ k
  greatest_within zero = omega (arith, greatest_suiting-none)
  greatest_within (suc k) =
      elim (suits count total (suc k)) as (λ t. suits count total (suc k) ≡ t → greatest_suiting count total (suc k) ≤ suc k) [
        | true ↦ λ e. omega (arith, greatest_suiting-taken k e)
        | false ↦ λ e. omega (arith, greatest_suiting-passed k e, greatest_within k)
      ] refl
