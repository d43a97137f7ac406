-- The blocks that a sample of the inverse of three levels depends on.
use Rattle.std.proofs.Common.{◌≡◌, ℕ, ◌+◌, ◌*◌, ◌/◌, ◌<◌, ◌≤◌, ◌⊎◌, inl, inr, ⊎_elim, ap, arith}
use Rattle.std.proofs.lemmas.Bool.Decides.{nat_tests}
use Rattle.wave_defs.specs.Level.{joined}
use Rattle.wave_defs.specs.Pyramid.{Pyramid, rebuilt, first_of, second_of, third_of}
use Rattle.wave_defs.specs.Reach.{Reaches, SameBlock}
use Rattle.wave_defs.proofs.BlockPlaces.{first-same, second-same, third-same}
use Rattle.wave_defs.proofs.LineReach.{SameMirror, SameMirror-same, SameMirror-far}
use Rattle.wave_defs.proofs.LevelReach.{joined-reach}

-- a sample between the ends of a block's reach
reached : (b i : ℕ) → 8 * b ≤ i + 21 → i ≤ 8 * b + 29 → Reaches b i
reached b i from to = grind (arith, nat_tests)

-- two heights are the same, or row i depends on the end of neither: of one level with n low rows, and of r block rows
pub record SameEnds (n n' i : ℕ) : Type 0 where
  pub or_far : (n ≡ n') ⊎ ((i + 3 < 2 * n) × (i + 3 < 2 * n'))

pub record SameHeight (r r' i : ℕ) : Type 0 where
  pub or_far : (r ≡ r') ⊎ ((i + 21 < 8 * r) × (i + 21 < 8 * r'))

mirror-at : (n n' i : ℕ) → SameEnds n n' i → i ≡ 2 * (i / 2) + 1 → SameMirror n n' (i / 2)
mirror-at n n' i ends odd =
    ⊎_elim (λ (e : n ≡ n'). SameMirror-same n n' (i / 2) e) (λ (f : (i + 3 < 2 * n) × (i + 3 < 2 * n')). SameMirror-far n n' (i / 2) (omega arith)
    (omega arith)) ends.or_far

-- the end of a level of w low rows for each block row
ends-at : (w r r' i k : ℕ) → SameHeight r r' i → (i + 21 < 8 * r → k + 3 < 2 * (w * r)) → (i + 21 < 8 * r' → k + 3 < 2 * (w * r')) → SameEnds (w * r) (w * r') k
ends-at w r r' i k height here there = record {
  or_far = ⊎_elim (λ (e : r ≡ r'). inl (ap (λ (n : ℕ). w * n) e)) (λ (f : (i + 21 < 8 * r) × (i + 21 < 8 * r')). inr (here f.0, there f.1)) height.or_far;
}

module _ (p q : Pyramid) (r r' c i j : ℕ) (hr : 2 ≤ r) (hc : 2 ≤ c) (height : SameHeight r r' i) (same : (t s : ℕ) → t < r → s < c → Reaches t i →
    Reaches s j → SameBlock p q t s) where
  -- the low rows of the second level
  third-reach : (k l : ℕ) → k < 2 * r → l < 2 * c → 4 * k ≤ i + 9 → i ≤ 4 * k + 9 → 4 * l ≤ j + 9 → j ≤ 4 * l + 9 →
      joined (third_of p) r c k l ≡ joined (third_of q) r' c k l
  unfolding third_of
  third-reach k l hk hl a b d e =
      let at = λ (t s : ℕ) (ht : t < r) (hs : s < c) (g : 2 * t ≤ k + 3) (h : k ≤ 2 * t + 5) (x : 2 * s ≤ l + 3) (y : l ≤ 2 * s + 5).
      same t s ht hs (reached t i (omega arith) (omega arith)) (reached s j (omega arith) (omega arith)) in
      let ends : SameEnds r r' k = record {
        or_far = ⊎_elim (λ (e : r ≡ r'). inl e) (λ (f : (i + 21 < 8 * r) × (i + 21 < 8 * r')). inr (omega arith, omega arith)) height.or_far;
      } in
      joined-reach r r' c k l (third_of p) (third_of q) hr hc hk hl (mirror-at r r' k ends)
      (record { at = λ t s ht hs g h x y. third-same p q 9 t s (omega arith) (omega arith) (at t s ht hs g (omega arith) x (omega arith)) })
      (record { at = λ t s ht hs g h x y. third-same p q 7 t s (omega arith) (omega arith) (at t s ht hs g h x y) })
      (record { at = λ t s ht hs g h x y. third-same p q 8 t s (omega arith) (omega arith) (at t s ht hs g h x y) })
      (record { at = λ t s ht hs g h x y. third-same p q 6 t s (omega arith) (omega arith) (at t s ht hs g h x y) })

  -- the low rows of the first level
  second-reach : (k l : ℕ) → k < 4 * r → l < 4 * c → 2 * k ≤ i + 3 → i ≤ 2 * k + 3 → 2 * l ≤ j + 3 → j ≤ 2 * l + 3 →
      joined (second_of p r c) (2 * r) (2 * c) k l ≡ joined (second_of q r' c) (2 * r') (2 * c) k l
  unfolding second_of
  second-reach k l hk hl a b d e =
      let at = λ (t s : ℕ) (ht : t < 2 * r) (hs : s < 2 * c) (g : 2 * t ≤ k + 3) (h : k ≤ 2 * t + 5) (x : 2 * s ≤ l + 3) (y : l ≤ 2 * s + 5).
      same (t / 2) (s / 2) (omega arith) (omega arith) (reached (t / 2) i (omega arith) (omega arith)) (reached (s / 2) j (omega arith) (omega arith)) in
      let ends = ends-at 2 r r' i k height (λ f. omega arith) (λ f. omega arith) in
      joined-reach (2 * r) (2 * r') (2 * c) k l (second_of p r c) (second_of q r' c) (omega arith) (omega arith) (omega arith) (omega arith)
      (mirror-at (2 * r) (2 * r') k ends)
      (record { at = λ t s ht hs g h x y. third-reach t s ht hs (omega arith) (omega arith) (omega arith) (omega arith) })
      (record { at = λ t s ht hs g h x y. second-same p q 4 t s (omega arith) (omega arith) (at t s ht hs g h x y) })
      (record { at = λ t s ht hs g h x y. second-same p q 5 t s (omega arith) (omega arith) (at t s ht hs g h x y) })
      (record { at = λ t s ht hs g h x y. second-same p q 3 t s (omega arith) (omega arith) (at t s ht hs g h x y) })

  pub rebuilt-reach : i < 8 * r → j < 8 * c → rebuilt p r c i j ≡ rebuilt q r' c i j
  unfolding rebuilt first_of
  rebuilt-reach hi hj =
      let at = λ (t s : ℕ) (ht : t < 4 * r) (hs : s < 4 * c) (g : 2 * t ≤ i + 3) (h : i ≤ 2 * t + 5) (x : 2 * s ≤ j + 3) (y : j ≤ 2 * s + 5).
      same (t / 4) (s / 4) (omega arith) (omega arith) (reached (t / 4) i (omega arith) (omega arith)) (reached (s / 4) j (omega arith) (omega arith)) in
      let ends = ends-at 4 r r' i i height (λ f. omega arith) (λ f. omega arith) in
      joined-reach (4 * r) (4 * r') (4 * c) i j (first_of p r c) (first_of q r' c) (omega arith) (omega arith) (omega arith) (omega arith)
      (mirror-at (4 * r) (4 * r') i ends)
      (record { at = λ t s ht hs g h x y. second-reach t s ht hs g h x y })
      (record { at = λ t s ht hs g h x y. first-same p q 1 t s (omega arith) (at t s ht hs g h x y) })
      (record { at = λ t s ht hs g h x y. first-same p q 2 t s (omega arith) (at t s ht hs g h x y) })
      (record { at = λ t s ht hs g h x y. first-same p q 0 t s (omega arith) (at t s ht hs g h x y) })
