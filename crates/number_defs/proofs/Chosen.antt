-- A choice is an option.
use Rattle.std.proofs.Common.{◌≡◌, ℕ, ◌-◌, ◌≤◌, List, [], ◌∷◌, length, Bool, true, false, cond, arith, Some, sum, find, unwrap_or}
use Rattle.std.specs.List.{range_with_len, list_all}
use Rattle.std.proofs.lemmas.Bool.Decides.{nat_tests}
use Rattle.std.proofs.lemmas.Bool.{and_parts}
use Rattle.number_defs.specs.Gaggles.{uncoded, is_option}
use Rattle.number_defs.proofs.Searching.{all_of_range}
use Rattle.number_defs.proofs.Suiting.{greatest_within}
use Rattle.number_defs.specs.Choice.{by_total, heuristic, candidates, is_least, optimal}

pub uncoded_is : (N : ℕ) → is_option N (uncoded N) ≡ true
uncoded_is N = grind (arith, nat_tests)

small_is : (N k : ℕ) → k ≤ N - 2 → is_option N k ≡ true
small_is N k le = grind (arith, nat_tests)

total_is : (N count total : ℕ) → is_option N (by_total N count total) ≡ true
total_is N count total = grind (arith, nat_tests, uncoded_is, small_is, greatest_within)

pub heuristic_is : (N : ℕ) (values : List ℕ) → is_option N (heuristic N values) ≡ true
unfolding heuristic
heuristic_is N values = total_is N (length values) (sum values)

-- an element that is found among such numbers is one of them
found_is : (q p : ℕ → Bool) (xs : List ℕ) (d : ℕ) → list_all q xs ≡ true → q d ≡ true → q (unwrap_or (find p xs) d) ≡ true
found_is q p [] d all e = e
found_is q p (x ∷ xs) d all e =
    let both = and_parts (q x) (list_all q xs) all in
    elim (p x) as (λ t. q (unwrap_or (cond t (Some x) (find p xs)) d) ≡ true) [
      | true ↦ both.0
      | false ↦ found_is q p xs d both.1 e
    ]

pub optimal_is : (N : ℕ) (values : List ℕ) → 2 ≤ N → is_option N (optimal N values) ≡ true
unfolding optimal
optimal_is N values low =
    let ks : list_all (is_option N) (range_with_len 0 (N - 1)) ≡ true = all_of_range (is_option N) 0 (N - 1) (λ j le lt. small_is N j (omega arith)) in
    let all : list_all (is_option N) (candidates N) ≡ true = rw (uncoded_is N) ks in
    found_is (is_option N) (is_least N values) (candidates N) (uncoded N) all (uncoded_is N)
