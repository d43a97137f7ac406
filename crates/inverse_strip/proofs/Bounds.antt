-- How large the rows of a level's columns and of the level are, at most.
use Rattle.std.proofs.Common.{◌≡◌, ℕ, true, false, if◌then◌else◌, ◌==◌, ◌≢◌, ◌+◌, ◌-◌, ◌*◌, ◌/◌, ◌%◌, ◌<◌, ◌≤◌, ℤ, pos, ◌+ℤ◌, ◌-ℤ◌, ◌*ℤ◌, ⊎_elim, arith}
use Rattle.std.proofs.lemmas.Int.{ints}
use Rattle.std.proofs.lemmas.Bool.{cases_eq}
use Rattle.wave_defs.specs.Line.{floor_div, predicted, correction, even_before, even_within, even_of, odd_of, merged}
use Rattle.wave_defs.specs.Level.{columns_merged}
use Rattle.wave_defs.specs.Lifted.{columns_even}
use Rattle.wave_defs.specs.Within.{IsWithin, AllWithin, EachWithin}
use Rattle.wave_defs.proofs.Floors.{floor_4, floor_16}
use Rattle.wave_defs.proofs.LevelWithin.{IsWithin-more}
use Rattle.wave_defs.proofs.Equations.{correction-is, predicted-is, even_of-is, odd_of-is, prediction-is, merged-is, columns_merged-is, columns_even-is}
use Rattle.std.proofs.lemmas.Bool.Decides.{nat_tests}

correction-turned : (a b : ℤ) → correction a b ≡ correction b a
correction-turned a b = grind (arith, nat_tests, correction-is)

-- An odd sample from four low samples and five high ones. What the high ones add to the even samples and what is predicted
-- from these cancel in part, so their bound counts once.
spread-within : (m d : ℕ) (a b c e v w x y z : ℤ) → IsWithin m a → IsWithin m b → IsWithin m c → IsWithin m e → IsWithin d v → IsWithin d w → IsWithin d x →
    IsWithin d y → IsWithin d z
    → IsWithin (5 * m / 4 + d + 2) (x +ℤ predicted (a +ℤ correction v w) (b +ℤ correction w x) (c +ℤ correction x y) (e +ℤ correction y z))
spread-within m d a b c e v w x y z wa wb wc we wv ww wx wy wz =
    simp (predicted-is, correction-is) (
    let f0 = floor_4 (pos 2 -ℤ (v +ℤ w)) in
    let f1 = floor_4 (pos 2 -ℤ (w +ℤ x)) in
    let f2 = floor_4 (pos 2 -ℤ (x +ℤ y)) in
    let f3 = floor_4 (pos 2 -ℤ (y +ℤ z)) in
    let e0 = a +ℤ floor_div (pos 2 -ℤ (v +ℤ w)) 4 in
    let e1 = b +ℤ floor_div (pos 2 -ℤ (w +ℤ x)) 4 in
    let e2 = c +ℤ floor_div (pos 2 -ℤ (x +ℤ y)) 4 in
    let e3 = e +ℤ floor_div (pos 2 -ℤ (y +ℤ z)) 4 in
    let p = floor_16 (pos 9 *ℤ (e1 +ℤ e2) -ℤ (e0 +ℤ e3) +ℤ pos 8) in
    record { above = omega (arith, ints); below = omega (arith, ints) }
    )

pub even_of-bound : (m d n j : ℕ) (c h : ℕ → ℤ) → j < n → AllWithin m n c → AllWithin d n h → IsWithin (m + (d + 1) / 2) (even_of c h j)
even_of-bound m d n j c h l wc wh =
    rw (even_of-is, correction-is) (
    let e = wc.at j l in
    let a = wh.at (j - 1) (omega arith) in
    let b = wh.at j l in
    let f = floor_4 (pos 2 -ℤ (h (j - 1) +ℤ h j)) in
    record { above = omega (arith, ints); below = omega (arith, ints) }
    )

pub odd_of-bound : (m d n j : ℕ) (c h : ℕ → ℤ) → 3 ≤ n → j < n → AllWithin m n c → AllWithin d n h → IsWithin (5 * m / 4 + d + 2) (odd_of c h n j)
odd_of-bound m d n j c h long l wc wh =
    let spread = λ (p q s t v w x y z : ℕ) (hp : p < n) (hq : q < n) (hs : s < n) (ht : t < n) (hv : v < n) (hw : w < n) (hx : x < n) (hy : y < n) (hz : z < n).
    spread-within m d (c p) (c q) (c s) (c t) (h v) (h w) (h x) (h y) (h z) (wc.at p hp) (wc.at q hq) (wc.at s hs) (wc.at t ht) (wh.at v hv) (wh.at w hw)
    (wh.at x hx) (wh.at y hy) (wh.at z hz) in
    let first = λ (e : j ≡ 0).
    let k0 : even_before j ≡ 1 = omega arith in
    let k2 : even_within n (j + 1) ≡ 1 = omega arith in
    let k3 : even_within n (j + 2) ≡ 2 = omega arith in
    let t0 = correction-turned (h 0) (h 1) in
    let is : odd_of c h n j ≡ (h 0 +ℤ predicted (c 1 +ℤ correction (h 1) (h 0)) (c 0 +ℤ correction (h 0) (h 0)) (c 1 +ℤ correction (h 0) (h 1))
    (c 2 +ℤ correction (h 1) (h 2))) = grind (arith, odd_of-is, prediction-is, even_of-is) in
    let at = spread 1 0 1 2 1 0 0 1 2 (omega arith) (omega arith) (omega arith) (omega arith) (omega arith) (omega arith) (omega arith) (omega arith)
    (omega arith) in
    let r : IsWithin (5 * m / 4 + d + 2) (odd_of c h n j) = rw is at in r in
    let last = λ (e : j + 1 ≡ n).
    let k0 : even_before j ≡ j - 1 = omega arith in
    let k2 : even_within n (j + 1) ≡ j = omega arith in
    let k3 : even_within n (j + 2) ≡ j - 1 = omega arith in
    let t0 = correction-turned (h (j - 1)) (h j) in
    let t1 = correction-turned (h (j - 1 - 1)) (h (j - 1)) in
    let is : odd_of c h n j ≡ (h j +ℤ predicted (c (j - 1) +ℤ correction (h (j - 1 - 1)) (h (j - 1))) (c j +ℤ correction (h (j - 1)) (h j))
    (c j +ℤ correction (h j) (h (j - 1))) (c (j - 1) +ℤ correction (h (j - 1)) (h (j - 1 - 1)))) = grind (arith, odd_of-is, prediction-is, even_of-is) in
    let at = spread (j - 1) j j (j - 1) (j - 1 - 1) (j - 1) j (j - 1) (j - 1 - 1) (omega arith) (omega arith) (omega arith) (omega arith) (omega arith)
    (omega arith) (omega arith) (omega arith) (omega arith) in
    let r : IsWithin (5 * m / 4 + d + 2) (odd_of c h n j) = rw is at in r in
    let before_last = λ (nf : j ≢ 0) (e : j + 2 ≡ n).
    let k0 : even_before j ≡ j - 1 = omega arith in
    let k2 : even_within n (j + 1) ≡ j + 1 = omega arith in
    let k3 : even_within n (j + 2) ≡ j + 1 = omega arith in
    let k4 : j + 1 - 1 ≡ j = omega arith in
    let t0 = correction-turned (h j) (h (j + 1)) in
    let is : odd_of c h n j ≡ (h j +ℤ predicted (c (j - 1) +ℤ correction (h (j - 1 - 1)) (h (j - 1))) (c j +ℤ correction (h (j - 1)) (h j))
    (c (j + 1) +ℤ correction (h j) (h (j + 1))) (c (j + 1) +ℤ correction (h (j + 1)) (h j))) = grind (arith, odd_of-is, prediction-is, even_of-is) in
    let at = spread (j - 1) j (j + 1) (j + 1) (j - 1 - 1) (j - 1) j (j + 1) j (omega arith) (omega arith) (omega arith) (omega arith) (omega arith)
    (omega arith) (omega arith) (omega arith) (omega arith) in
    let r : IsWithin (5 * m / 4 + d + 2) (odd_of c h n j) = rw is at in r in
    let inner = λ (nf : j ≢ 0) (n1 : j + 1 ≢ n) (n2 : j + 2 ≢ n).
    let k0 : even_before j ≡ j - 1 = omega arith in
    let k2 : even_within n (j + 1) ≡ j + 1 = omega arith in
    let k3 : even_within n (j + 2) ≡ j + 2 = omega arith in
    let k4 : j + 1 - 1 ≡ j = omega arith in
    let k5 : j + 2 - 1 ≡ j + 1 = omega arith in
    let is : odd_of c h n j ≡ (h j +ℤ predicted (c (j - 1) +ℤ correction (h (j - 1 - 1)) (h (j - 1))) (c j +ℤ correction (h (j - 1)) (h j))
    (c (j + 1) +ℤ correction (h j) (h (j + 1))) (c (j + 2) +ℤ correction (h (j + 1)) (h (j + 2)))) = grind (arith, odd_of-is, prediction-is, even_of-is) in
    let at = spread (j - 1) j (j + 1) (j + 2) (j - 1 - 1) (j - 1) j (j + 1) (j + 2) (omega arith) (omega arith) (omega arith) (omega arith) (omega arith)
    (omega arith) (omega arith) (omega arith) (omega arith) in
    let r : IsWithin (5 * m / 4 + d + 2) (odd_of c h n j) = rw is at in r in
    ⊎_elim first
    (λ (nf : j ≢ 0). ⊎_elim last
    (λ (n1 : j + 1 ≢ n). ⊎_elim (before_last nf) (inner nf n1) (cases_eq (j + 2) n))
    (cases_eq (j + 1) n))
    (cases_eq j 0)

-- a line of such samples
pub merged-bound : (m d n : ℕ) (c h : ℕ → ℤ) → 3 ≤ n → AllWithin m n c → AllWithin d n h → AllWithin (5 * m / 4 + d + 2) (2 * n) (merged c h n)
merged-bound m d n c h long wc wh = record {
  at = λ i l. rw merged-is (
      let even = IsWithin-more _ (5 * m / 4 + d + 2) _ (omega arith) (even_of-bound m d n (i / 2) c h (omega arith) wc wh) in
      let odd = odd_of-bound m d n (i / 2) c h long (omega arith) wc wh in
      elim (i % 2 == 0) as (λ v. IsWithin (5 * m / 4 + d + 2) (if v then even_of c h (i / 2) else odd_of c h n (i / 2))) [ true ↦ even | false ↦ odd ]);
}

-- and a row of columns of them
pub columns_merged-bound : (m d n w i : ℕ) (c h : ℕ → ℕ → ℤ) → 3 ≤ n → i < 2 * n → EachWithin m n w c → EachWithin d n w h →
    AllWithin (5 * m / 4 + d + 2) w (columns_merged c h n i)
columns_merged-bound m d n w i c h long l wc wh = record {
  at = λ j hj. rw columns_merged-is (
      let column = merged-bound m d n (λ r. c r j) (λ r. h r j) long (record { at = λ k hk. wc.at k j hk hj }) (record { at = λ k hk. wh.at k j hk hj }) in
      column.at i l);
}

pub columns_even-bound : (m d n w k : ℕ) (c h : ℕ → ℕ → ℤ) → k < n → EachWithin m n w c → EachWithin d n w h →
    AllWithin (m + (d + 1) / 2) w (columns_even c h k)
columns_even-bound m d n w k c h l wc wh = record {
  at = λ j hj. rw columns_even-is (even_of-bound m d n k (λ r. c r j) (λ r. h r j) l (record { at = λ i hi. wc.at i j hi hj })
      (record { at = λ i hi. wh.at i j hi hj }));
}
