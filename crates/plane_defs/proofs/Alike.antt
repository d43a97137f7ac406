-- Filters that are the same, and what holds of what they choose.
use Rattle.std.proofs.Common.{◌≡◌, ℕ, Bool, true, false, cond, List, [], ◌∷◌, refl, ap, ◌∙◌, filter}
use Rattle.std.specs.List.{AllByRecursion}
use Rattle.plane_defs.specs.Spans.{span}

-- ---- lists alike

pub filter_same : {X : Type 0} (p q : X → Bool) (xs : List X) → AllByRecursion (λ x. p x ≡ q x) xs → filter p xs ≡ filter q xs
filter_same p q [] same = refl
filter_same p q (x ∷ xs) same = ap (λ b. cond b (x ∷ filter p xs) (filter p xs)) same.0 ∙ ap (λ l. cond (q x) (x ∷ l) l) (filter_same p q xs same.1)

pub all_filter : {X : Type 0} (P : X → Type 0) (p : X → Bool) (xs : List X) → AllByRecursion P xs → AllByRecursion P (filter p xs)
all_filter P p [] all = tt
all_filter {X} P p (x ∷ xs) all = chosen (p x) (all_filter P p xs all.1)
  where
    chosen : (b : Bool) → AllByRecursion P (filter p xs) → AllByRecursion P (cond b (x ∷ filter p xs) (filter p xs))
    chosen true rest = (all.0, rest)
    chosen false rest = rest

pub in_three : (P : ℕ → Type 0) → P 0 → P 1 → P 2 → AllByRecursion P (span 0 3)
unfolding span
in_three P a b c = (a, (b, (c, tt)))
