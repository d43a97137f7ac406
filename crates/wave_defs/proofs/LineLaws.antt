-- A line that is split and joined again, or joined and split again, is the same.
use mathlib.Core.Path.{fun_ext}
use Rattle.std.proofs.Common.{◌≡◌, ℕ, true, false, if◌then◌else◌, ◌==◌, ◌+◌, ◌*◌, ◌-◌, ◌<◌, ◌≤◌, ◌/◌, ◌%◌, ℤ, ◌+ℤ◌, ◌-ℤ◌, ap, ◌∙◌, ⊎_elim, subst, arith}
use Rattle.std.proofs.lemmas.Int.{ints}
use Rattle.std.proofs.lemmas.Bool.Decides.{nat_tests}
use Rattle.std.proofs.lemmas.Bool.{cases_eq}
use Rattle.wave_defs.specs.Line.{prediction, correction, high_of, low_of, even_of, odd_of, merged}
use Rattle.wave_defs.specs.Held.{Agrees}

put_back : (a b : ℤ) → (a -ℤ b) +ℤ b ≡ a
put_back a b = omega (arith, ints)

taken_off : (a b : ℤ) → (a +ℤ b) -ℤ b ≡ a
taken_off a b = omega (arith, ints)

pub even_of-forward : (x : ℕ → ℤ) (n j : ℕ) → even_of (low_of x n) (high_of x n) j ≡ x (2 * j)
unfolding even_of low_of
even_of-forward x n j = put_back (x (2 * j)) (correction (high_of x n (j - 1)) (high_of x n j))

pub odd_of-forward : (x : ℕ → ℤ) (n j : ℕ) → odd_of (low_of x n) (high_of x n) n j ≡ x (2 * j + 1)
unfolding odd_of high_of
odd_of-forward x n j = grind (arith, nat_tests, even_of-forward, put_back)

-- the same in the other order
pub even_of-merged : (c d : ℕ → ℤ) (n j : ℕ) → merged c d n (2 * j) ≡ even_of c d j
unfolding merged
even_of-merged c d n j = grind (arith, nat_tests)

pub odd_of-merged : (c d : ℕ → ℤ) (n j : ℕ) → merged c d n (2 * j + 1) ≡ odd_of c d n j
unfolding merged
odd_of-merged c d n j = grind (arith, nat_tests)

pub high_of-merged : (c d : ℕ → ℤ) (n j : ℕ) → high_of (merged c d n) n j ≡ d j
unfolding high_of odd_of
high_of-merged c d n j = grind (arith, nat_tests, odd_of-merged, even_of-merged, taken_off)

pub low_of-merged : (c d : ℕ → ℤ) (n j : ℕ) → low_of (merged c d n) n j ≡ c j
unfolding low_of even_of
low_of-merged c d n j = grind (arith, nat_tests, even_of-merged, high_of-merged, taken_off)

-- a line by its even and its odd samples
pub Agrees-merged : (x c d : ℕ → ℤ) (n : ℕ) → Agrees n (λ k. x (2 * k)) (even_of c d) → Agrees n (λ k. x (2 * k + 1)) (odd_of c d n) →
    Agrees (2 * n) x (merged c d n)
unfolding merged
Agrees-merged x c d n even odd = record {
  at = λ i h.
      let e = even.at (i / 2) (omega arith) in
      let o = odd.at (i / 2) (omega arith) in
      let at_even = λ (z : i % 2 ≡ 0). let at : i ≡ 2 * (i / 2) = omega arith in let p = ap x at in let t : x i ≡ merged c d n i =
      grind (arith, nat_tests) in t in
      let at_odd = λ (z : i % 2 ≡ 0 → ⊥). let at : i ≡ 2 * (i / 2) + 1 = omega arith in let p = ap x at in let t : x i ≡ merged c d n i =
      grind (arith, nat_tests) in t in
      ⊎_elim at_even at_odd (cases_eq (i % 2) 0);
}

-- ---- the values depend only on the samples within the line

pub prediction-same : (n j : ℕ) (e f : ℕ → ℤ) → 2 ≤ n → j < n → Agrees n e f → prediction e n j ≡ prediction f n j
unfolding prediction
prediction-same n j e f two h a = grind (arith, nat_tests)

pub high_of-same : (n j : ℕ) (x y : ℕ → ℤ) → 2 ≤ n → j < n → Agrees (2 * n) x y → high_of x n j ≡ high_of y n j
unfolding high_of
high_of-same n j x y two h a = grind (arith, nat_tests, prediction-same)

pub low_of-same : (n j : ℕ) (x y : ℕ → ℤ) → 2 ≤ n → j < n → Agrees (2 * n) x y → low_of x n j ≡ low_of y n j
unfolding low_of
low_of-same n j x y two h a = grind (arith, nat_tests, high_of-same)

pub even_of-same : (n j : ℕ) (c c' d d' : ℕ → ℤ) → j < n → Agrees n c c' → Agrees n d d' → even_of c d j ≡ even_of c' d' j
unfolding even_of
even_of-same n j c c' d d' h a b = grind (arith, nat_tests)

pub odd_of-same : (n j : ℕ) (c c' d d' : ℕ → ℤ) → 2 ≤ n → j < n → Agrees n c c' → Agrees n d d' → odd_of c d n j ≡ odd_of c' d' n j
unfolding odd_of
odd_of-same n j c c' d d' two h a b = grind (arith, nat_tests, prediction-same, even_of-same)

-- ---- the laws, as equations of signals

pub merged_of-forward : (x : ℕ → ℤ) (n : ℕ) → merged (low_of x n) (high_of x n) n ≡ x
unfolding merged
merged_of-forward x n = grind (arith, nat_tests, even_of-forward, odd_of-forward)

pub low_of-of_merged : (c d : ℕ → ℤ) (n : ℕ) → low_of (merged c d n) n ≡ c
low_of-of_merged c d n = fun_ext (low_of-merged c d n)

pub high_of-of_merged : (c d : ℕ → ℤ) (n : ℕ) → high_of (merged c d n) n ≡ d
high_of-of_merged c d n = fun_ext (high_of-merged c d n)

-- what a call makes of a line x, as a fact about the line that x is a copy of
pub Agrees-low : (m n : ℕ) (y x z : ℕ → ℤ) → m ≡ n → 2 ≤ n → Agrees m y (low_of x m) → Agrees (2 * n) x z → Agrees n y (low_of z n)
Agrees-low m n y x z e two a b =
    let c = subst (λ (k : ℕ). Agrees k y (low_of x k)) e a in
    record { at = λ j h. c.at j h ∙ low_of-same n j x z two h b }

pub Agrees-high : (m n : ℕ) (y x z : ℕ → ℤ) → m ≡ n → 2 ≤ n → Agrees m y (high_of x m) → Agrees (2 * n) x z → Agrees n y (high_of z n)
Agrees-high m n y x z e two a b =
    let c = subst (λ (k : ℕ). Agrees k y (high_of x k)) e a in
    record { at = λ j h. c.at j h ∙ high_of-same n j x z two h b }

-- a line that is put together depends only on the samples within it
pub merged-same : (n : ℕ) (c c' d d' : ℕ → ℤ) → 2 ≤ n → Agrees n c c' → Agrees n d d' → Agrees (2 * n) (merged c d n) (merged c' d' n)
unfolding merged
merged-same n c c' d d' two a b = record {
  at = λ i h.
      let even = even_of-same n (i / 2) c c' d d' (omega arith) a b in
      let odd = odd_of-same n (i / 2) c c' d d' two (omega arith) a b in
      elim (i % 2 == 0) as (λ v. (if v then even_of c d (i / 2) else odd_of c d n (i / 2)) ≡ (if v then even_of c' d' (i / 2) else odd_of c' d' n (i / 2)))
      [ true ↦ even | false ↦ odd ];
}
