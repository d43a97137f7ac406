-- A text is split at the first separator in one way.
use Rattle.std.proofs.Common.{◌≡◌, ◌≢◌, ◌<◌, ℕ, suc, List, [], ◌∷◌, ◌++◌, length, get_or, refl, sym, arith}

-- no octet of a text is this one
abbrev pub Lacks : ℕ → List ℕ → Type 0
Lacks sep xs = (i : ℕ) → i < length xs → get_or xs i 0 ≢ sep

pub split_one : (sep : ℕ) (xs ys a b : List ℕ) → Lacks sep xs → Lacks sep ys → xs ++ (sep ∷ a) ≡ ys ++ (sep ∷ b) → (xs ≡ ys) × (a ≡ b)
split_one sep [] [] a b p q e = (refl, cc)
split_one sep [] (y ∷ ys) a b p q e = absurd (q 0 (omega arith) (let same : sep ≡ y = cc in sym same))
split_one sep (x ∷ xs) [] a b p q e = absurd (p 0 (omega arith) (let same : x ≡ sep = cc in same))
split_one sep (x ∷ xs) (y ∷ ys) a b p q e =
    let head : x ≡ y = cc in
    let tail : xs ++ (sep ∷ a) ≡ ys ++ (sep ∷ b) = cc in
    let rest = split_one sep xs ys a b (λ i below. p (suc i) (omega arith)) (λ i below. q (suc i) (omega arith)) tail in
    let same : xs ≡ ys = rest.0 in
    (cc, rest.1)
