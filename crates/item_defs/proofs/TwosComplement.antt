-- Numbers bit by bit, in two's complement form.
use Rattle.std.proofs.Common.{zero, suc, ◌≡◌, ℕ, ◌+◌, ◌-◌, ◌*◌, ◌/◌, ◌<◌, ◌^◌, sym, ap, ◌∙◌, arith, ℤ, pos, negsuc, neg_ℤ, ◌+ℤ◌, ◌*ℤ◌, pow_pos}
use Rattle.std.specs.Int.{int_shr}
use Rattle.std.proofs.lemmas.Int.{ints}
use Rattle.std.proofs.lemmas.Nat.{shr-shr, div-mul-add}
use Rattle.std.proofs.lemmas.Bool.Decides.{nat_tests}
use Rattle.item_defs.specs.TwosComplement.{complement}

-- a number with one more bit
abbrev pub twice : ℤ → ℕ → ℤ
twice z b = (z +ℤ z) +ℤ pos b

step_pos : (m b K : ℕ) → (pos m *ℤ pos (2 * K)) +ℤ (pos b *ℤ pos K) ≡ twice (pos m) b *ℤ pos K
step_pos m b K = let e : m * (2 * K) + b * K ≡ (m + m + b) * K = grind arith in ap pos e

step_neg0 : (m K : ℕ) → (negsuc m *ℤ pos (2 * K)) +ℤ (pos 0 *ℤ pos K) ≡ negsuc (2 * m + 1) *ℤ pos K
step_neg0 m K = grind (arith, nat_tests, ints)

step_neg1 : (m K : ℕ) → (negsuc m *ℤ pos (2 * K)) +ℤ (pos 1 *ℤ pos K) ≡ negsuc (2 * m) *ℤ pos K
step_neg1 m K = grind (arith, nat_tests, ints)

twice_neg0 : (m : ℕ) → twice (negsuc m) 0 ≡ negsuc (2 * m + 1)
twice_neg0 m = grind (arith, nat_tests, ints)

twice_neg1 : (m : ℕ) → twice (negsuc m) 1 ≡ negsuc (2 * m)
twice_neg1 m = grind (arith, nat_tests, ints)

-- a multiple of 2 K and a bit of weight K
pub step_value : (z : ℤ) (b K : ℕ) → b < 2 → (z *ℤ pos (2 * K)) +ℤ (pos b *ℤ pos K) ≡ twice z b *ℤ pos K
step_value (pos m) b K lt = step_pos m b K
step_value (negsuc m) zero K lt = step_neg0 m K ∙ ap (λ z. z *ℤ pos K) (sym (twice_neg0 m))
step_value (negsuc m) (suc zero) K lt = step_neg1 m K ∙ ap (λ z. z *ℤ pos K) (sym (twice_neg1 m))
step_value (negsuc m) (suc (suc b)) K lt = absurd (omega (arith, lt))

pub shr_step : (z : ℤ) (c : ℕ) → int_shr z c ≡ twice (int_shr z (suc c)) (complement 1 (int_shr z c))
shr_step (pos n) c = let e : n / 2 ^ suc c ≡ n / 2 ^ c / 2 =
    (let z : suc c ≡ c + 1 = omega arith in ap (λ k. n / 2 ^ k) z ∙ sym (shr-shr n c 1)) in grind (arith, nat_tests, ints)
shr_step (negsuc n) c = let e : n / 2 ^ suc c ≡ n / 2 ^ c / 2 =
    (let z : suc c ≡ c + 1 = omega arith in ap (λ k. n / 2 ^ k) z ∙ sym (shr-shr n c 1)) in grind (arith, nat_tests, ints)

pub bit_below : (z : ℤ) → complement 1 z < 2
bit_below (pos n) = grind (arith, nat_tests)
bit_below (negsuc n) = grind (arith, nat_tests)

-- a number is determined by a multiple of it
nat_cancel : (m n K : ℕ) → 0 < K → m * K ≡ n * K → m ≡ n
nat_cancel m n K some e =
    let z : m * K ≡ m * K + 0 = omega arith in
    let y : n * K ≡ n * K + 0 = omega arith in
    sym (ap (λ x. x / K) z ∙ div-mul-add m K 0 some) ∙ ap (λ x. x / K) e ∙ ap (λ x. x / K) y ∙ div-mul-add n K 0 some

pub cancel : (z y : ℤ) (K : ℕ) → 0 < K → z *ℤ pos K ≡ y *ℤ pos K → z ≡ y
cancel (pos m) (pos n) K some e = ap pos (nat_cancel m n K some (of_pos (m * K) (n * K) e))
  where
    of_pos : (a b : ℕ) → pos a ≡ pos b → a ≡ b
    of_pos a b e = cc
cancel (pos m) (negsuc n) K some e = absurd (grind (arith, nat_tests, ints))
cancel (negsuc m) (pos n) K some e = absurd (grind (arith, nat_tests, ints))
cancel (negsuc m) (negsuc n) K some e =
    let f : suc m * K ≡ suc n * K = grind (arith, nat_tests, ints) in
    let g = nat_cancel (suc m) (suc n) K some f in
    let h : m ≡ n = omega (arith, g) in ap negsuc h

pub twice_same : (z y : ℤ) (b c : ℕ) → b < 2 → c < 2 → twice z b ≡ twice y c → (z ≡ y) × (b ≡ c)
twice_same z y b c lb lc e = (omega (arith, ints, lb, lc, e), omega (arith, ints, lb, lc, e))

-- a multiple of 2 ^ c shifted back
pub shr_multiple : (z : ℤ) (c : ℕ) → int_shr (z *ℤ pos (2 ^ c)) c ≡ z
shr_multiple (pos n) c = let e : n * 2 ^ c ≡ n * 2 ^ c + 0 = omega arith in ap pos (ap (λ x. x / 2 ^ c) e ∙ div-mul-add n (2 ^ c) 0 (pow_pos c))
shr_multiple (negsuc n) c =
    let some = pow_pos c in
    let e : suc n * 2 ^ c ≡ n * 2 ^ c + 2 ^ c = grind arith in
    let f : suc n * 2 ^ c - 1 ≡ n * 2 ^ c + (2 ^ c - 1) = omega (arith, e, some) in
    ap (λ z. int_shr z c) (below_zero (suc n * 2 ^ c) (omega (arith, e, some))) ∙
    ap negsuc (ap (λ x. x / 2 ^ c) f ∙ div-mul-add n (2 ^ c) (2 ^ c - 1) (omega (arith, some)))
  where
    below_zero : (a : ℕ) → 0 < a → neg_ℤ (pos a) ≡ negsuc (a - 1)
    below_zero zero lt = absurd (omega (arith, lt))
    below_zero (suc a) lt = let e : a ≡ suc a - 1 = omega arith in ap negsuc e
