-- Some place of a range passes a test: of the ranges of a block's sets.
use Rattle.std.proofs.Common.{◌≡◌, ◌⊎◌, inl, inr, ℕ, ◌+◌, ◌*◌, ◌-◌, ◌/◌, ◌<◌, ◌≤◌, Bool, true, arith, ap, ◌∙◌, sym}
use Rattle.std.proofs.lemmas.Bool.{cases_lt}

-- some place of a range passes the test
abbrev pub Some_in : (ℕ → Bool) → (start count : ℕ) → Type 0
Some_in f start count = (k : ℕ) × (k < count) × (f (start + k) ≡ true)

-- the members of D_i: children and grandchildren
abbrev pub Some_below : (ℕ → Bool) → (i : ℕ) → Type 0
Some_below f i = Some_in f (4 + 4 * i) 4 ⊎ Some_in f (16 + 16 * i) 16

-- a range inside another
pub within : (f : ℕ → Bool) (a b start count : ℕ) → start ≤ a → a + b ≤ start + count → Some_in f a b → Some_in f start count
within f a b start count low high w = let e : a + w.0 ≡ start + (a - start + w.0) =
    omega (arith, low) in (a - start + w.0, omega (arith, w.1, low, high), ap f (sym e) ∙ w.2)

pub below_all : (f : ℕ → Bool) (i : ℕ) → i < 3 → Some_below f i → Some_in f 4 60
below_all f i lt (inl w) = within f (4 + 4 * i) 4 4 60 (omega arith) (omega (arith, lt)) w
below_all f i lt (inr w) = within f (16 + 16 * i) 16 4 60 (omega arith) (omega (arith, lt)) w

-- the family of a place from 4 on
pub family_at : (f : ℕ → Bool) → Some_in f 4 60 → (i : ℕ) × (i < 3) × Some_below f i
family_at f w = elim (cases_lt w.0 12) [
  | inl lt ↦
      let i = w.0 / 4 in
      let place : 4 + w.0 ≡ 4 + 4 * i + (w.0 - 4 * i) = omega arith in
      (i, omega (arith, lt), inl (w.0 - 4 * i, omega arith, ap f (sym place) ∙ w.2))
  | inr ge ↦
      let i = (w.0 - 12) / 16 in
      let place : 4 + w.0 ≡ 16 + 16 * i + (w.0 - 12 - 16 * i) = omega (arith, ge) in
      (i, omega (arith, w.1), inr (w.0 - 12 - 16 * i, omega (arith, ge), ap f (sym place) ∙ w.2))
]

-- the quad of a grandchild
pub quad_at : (f : ℕ → Bool) (i : ℕ) → Some_in f (16 + 16 * i) 16 → (j : ℕ) × (j < 4) × Some_in f (16 + 16 * i + 4 * j) 4
quad_at f i w =
    let j = w.0 / 4 in
    let place : 16 + 16 * i + w.0 ≡ 16 + 16 * i + 4 * j + (w.0 - 4 * j) = omega arith in
    (j, omega (arith, w.1), (w.0 - 4 * j, omega arith, ap f (sym place) ∙ w.2))
