-- Mapped values given by their places.
use Rattle.std.proofs.Common.{◌≡◌, ℕ, suc, ◌+◌, ◌<◌, List, [], ◌∷◌, length, get_or, map, max, min, ◌*◌, ◌-◌, ap, refl, ◌∙◌, arith}
use Rattle.std.specs.List.{range_with_len}
use Rattle.number_defs.specs.Gaggles.{value_at, gaggle_values}

-- a list is determined by its values at its places
pub by_places : (f : ℕ → ℕ) (a : ℕ) (xs : List ℕ) → ((k : ℕ) → k < length xs → get_or xs k 0 ≡ f (a + k)) → xs ≡ map f (range_with_len a (length xs))
by_places f a [] h = refl
by_places f a (x ∷ xs) h =
    let after : (k : ℕ) → k < length xs → get_or xs k 0 ≡ f ((a + 1) + k) = λ k lt. h (suc k) (omega arith) ∙ ap f (omega arith) in
    ap (λ y. y ∷ xs) (h 0 (omega arith) ∙ ap f (omega arith)) ∙ ap (λ ys. f a ∷ ys) (by_places f (a + 1) xs after)

-- the values that a writer maps for one gaggle are those of the gaggle
pub gaggle_slice : (N : ℕ) (heights : List ℕ) (g from count : ℕ) → from ≡ max (16 * g) 1 → count ≡ min (length heights) (16 * g + 16) - from →
    map (value_at N heights) (range_with_len from count) ≡ gaggle_values N heights g
gaggle_slice N heights g from count p q = rw (q, p) refl
