-- The option that a writer chooses for a gaggle of mapped values of N bits. (The thresholds of the heuristic
-- choice and the ties of the optimal one are this project's own.)
use Rattle.std.specs.Prelude.{ℕ, ◌+◌, ◌-◌, ◌*◌, ◌/◌, ◌^◌, ◌==◌, List, ◌∷◌, None, length, sum, sum_by, filter, find, unwrap_or, Bool, if◌then◌else◌, nat_le}
use Rattle.std.specs.Prelude.{nat_lt}
use Rattle.std.specs.List.{range_with_len, list_all, last_or}
use Rattle.number_defs.specs.Gaggles.{uncoded, gaggle_values}

-- ---- heuristic

-- rests of k bits suit this number of values of this total
abbrev pub suits : ℕ → ℕ → ℕ → Bool
suits count total k = nat_le (count * 2 ^ (k + 7)) (128 * total + 49 * count)

-- the greatest k up to this one that suits, or 0 if none does
unfoldable pub greatest_suiting : ℕ → ℕ → ℕ → ℕ
greatest_suiting count total most = unwrap_or (last_or None (filter (suits count total) (range_with_len 0 (most + 1)))) 0

-- By the number of values and their total: the first test that holds decides. N - 2 is the greatest k that exists,
-- so its own test is the first of those for k.
abbrev pub by_total : ℕ → ℕ → ℕ → ℕ
by_total N count total =
    if nat_le (23 * count * 2 ^ N) (64 * total)
    then uncoded N
    else (if nat_lt (128 * total) (207 * count)
    then 0
    else greatest_suiting count total (N - 2))

unfoldable pub heuristic : ℕ → List ℕ → ℕ
heuristic N values = by_total N (length values) (sum values)

-- ---- optimal

-- the bits of mapped values under an option
unfoldable pub coded_bits : ℕ → List ℕ → ℕ → ℕ
coded_bits N values option =
    if option == uncoded N then N * length values else sum_by (λ v. (v / 2 ^ option + 1) + option) values

-- uncoded, then each k
abbrev pub candidates : ℕ → List ℕ
candidates N = uncoded N ∷ range_with_len 0 (N - 1)

-- no candidate takes fewer bits
abbrev pub is_least : ℕ → List ℕ → ℕ → Bool
is_least N values option = list_all (λ other. nat_le (coded_bits N values option) (coded_bits N values other)) (candidates N)

-- the first such candidate
unfoldable pub optimal : ℕ → List ℕ → ℕ
optimal N values = unwrap_or (find (is_least N values) (candidates N)) (uncoded N)

-- ---- for each gaggle

-- what such a choice selects for each gaggle of these numbers of N bits
abbrev pub choices : (ℕ → List ℕ → ℕ) → ℕ → List ℕ → ℕ → ℕ
choices choice N heights g = choice N (gaggle_values N heights g)
