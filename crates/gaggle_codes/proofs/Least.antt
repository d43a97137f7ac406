-- The first option of the fewest bits.
use Rattle.std.proofs.Common.{◌≡◌, ℕ, suc, ◌+◌, ◌*◌, ◌-◌, ◌/◌, ◌^◌, ◌<◌, ◌≤◌, List, [], ◌∷◌, length, get_or, true, false, refl, ap, ◌∙◌, arith, leb, eqb}
use Rattle.std.proofs.Common.{inl, inr, ◌⊎◌, ◌&&◌, sum, sum_by, find, Some}
use Rattle.std.specs.List.{range_with_len, list_all}
use Rattle.std.proofs.lemmas.Bool.Decides.{nat_tests}
use Rattle.std.proofs.lemmas.List.Sums.{sum_by-cons}
use Rattle.number_defs.specs.Gaggles.{uncoded}
use Rattle.number_defs.specs.Choice.{coded_bits, is_least, optimal}
use Rattle.number_defs.proofs.Searching.{all_of_range, not_all_of_range, first_of_range}
use Rattle.gaggle_codes.specs.Options.{name_of, named}
use Rattle.gaggle_codes.proofs.Names.{uncoded_above, name_k, name_uncoded}
use Rattle.number_defs.proofs.Equations.{coded_bits-is, optimal-is}

-- ---- lists

pub sum_small : (m : ℕ) (xs : List ℕ) → ((i : ℕ) → i < length xs → get_or xs i 0 ≤ m) → sum xs ≤ length xs * m
sum_small m [] h = omega arith
sum_small m (x ∷ xs) h = omega (arith, h 0 (omega arith), sum_small m xs (λ i lt. h (suc i) (omega arith)), sum_by-cons (λ v. v) x xs)

-- ---- costs

-- a k that beats uncoded, and each k before it
pub record Beats (N : ℕ) (values : List ℕ) (k best fewest : ℕ) : Type 0 where
  pub below : best < k
  pub uncoded_more : fewest < coded_bits N values (uncoded N)
  pub earlier_more : (j : ℕ) → j < best → fewest < coded_bits N values j

-- the best of uncoded and the ks below this one
pub record IsBest (N : ℕ) (values : List ℕ) (k best fewest : ℕ) : Type 0 where
  pub cost : fewest ≡ coded_bits N values (named N best)
  pub no_more : fewest ≤ coded_bits N values (uncoded N)
  pub no_more_k : (j : ℕ) → j < k → fewest ≤ coded_bits N values j
  pub first : (best ≡ 15) ⊎ Beats N values k best fewest

uncoded_bits : (N : ℕ) (values : List ℕ) → N * length values ≡ coded_bits N values (uncoded N)
uncoded_bits N values = simp coded_bits-is (let e : eqb (uncoded N) (uncoded N) ≡ true = grind (arith, nat_tests) in rw e refl)

split_bits : (N : ℕ) (values : List ℕ) (k : ℕ) → 2 ≤ N → N ≤ 10 → k ≤ N - 2 → sum_by (λ v. (v / 2 ^ k + 1) + k) values ≡ coded_bits N values k
split_bits N values k low high le = simp coded_bits-is (grind (arith, nat_tests, uncoded_above))

named_k : (N k : ℕ) → k < 15 → named N k ≡ k
named_k N k lt = let e : eqb k 15 ≡ false = grind (arith, nat_tests) in rw e refl

module _ (N : ℕ) (values : List ℕ) where
  pub best_start : (bits : ℕ) → bits ≡ length values * N → IsBest N values 0 15 bits
  best_start bits e =
      let same : bits ≡ coded_bits N values (uncoded N) = (let t : bits ≡ N * length values = omega arith in t) ∙ uncoded_bits N values in
      record { cost = same; no_more = omega arith; no_more_k = λ j lt. absurd (omega arith); first = inl refl }

  pub best_changes : (k best fewest needed : ℕ) → 2 ≤ N → N ≤ 10 → k < N - 1 → needed ≡ sum_by (λ v. (v / 2 ^ k + 1) + k) values → needed < fewest →
      IsBest N values k best fewest → IsBest N values (k + 1) k needed
  best_changes k best fewest needed low high lt is less b = grind (arith, nat_tests, split_bits, named_k)

  pub best_stays : (k best fewest needed : ℕ) → 2 ≤ N → N ≤ 10 → k < N - 1 → needed ≡ sum_by (λ v. (v / 2 ^ k + 1) + k) values → fewest ≤ needed →
      IsBest N values k best fewest → IsBest N values (k + 1) best fewest
  best_stays k best fewest needed low high lt is more b = grind (arith, nat_tests, split_bits)

  least_where : (o : ℕ) → coded_bits N values o ≤ coded_bits N values (uncoded N) → ((j : ℕ) → j < N - 1 → coded_bits N values o ≤ coded_bits N values j) →
      is_least N values o ≡ true
  least_where o p h = grind (arith, nat_tests, all_of_range)

  not_least_where : (o j : ℕ) → j < N - 1 → coded_bits N values j < coded_bits N values o → is_least N values o ≡ false
  not_least_where o j lt less =
      elim (leb (coded_bits N values o) (coded_bits N values (uncoded N))) as
      (λ t. (t && list_all (λ other. leb (coded_bits N values o) (coded_bits N values other)) (range_with_len 0 (N - 1))) ≡ false) [
        | true ↦ (not_all_of_range _ 0 (N - 1) j (omega arith) (omega arith) (grind (arith, nat_tests)))
        | false ↦ refl
      ]

  pub best_of_all : (best fewest : ℕ) → 2 ≤ N → N ≤ 10 → IsBest N values (N - 1) best fewest → best ≡ name_of N (optimal N values)
  best_of_all best fewest low high b =
      simp optimal-is (
      elim b.first [
        | inl none ↦ grind (arith, nat_tests, least_where, name_uncoded)
        | inr beats ↦
            let same : fewest ≡ coded_bits N values best = b.cost ∙ ap (coded_bits N values) (named_k N best (omega (arith, beats.below))) in
            let un : is_least N values (uncoded N) ≡ false = not_least_where (uncoded N) best beats.below (omega (arith, same, beats.uncoded_more)) in
            let it : is_least N values best ≡ true = least_where best (omega (arith, same, b.no_more)) (λ j lt. omega (arith, same, b.no_more_k j lt)) in
            let found : find (is_least N values) (range_with_len 0 (N - 1)) ≡ Some best =
            first_of_range (is_least N values) 0 (N - 1) best (omega arith) (omega (arith, beats.below)) it
            (λ i le lt. not_least_where i best beats.below (omega (arith, same, beats.earlier_more i lt))) in
            rw (un, found) (name_k N best low high (omega (arith, beats.below)))
      ])
