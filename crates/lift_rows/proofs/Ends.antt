-- A line whose inner samples a kernel computed, and whose ends are computed one by one.
use Rattle.std.proofs.Common.{◌≡◌, ◌≢◌, ℕ, ◌+◌, ◌-◌, ◌<◌, ◌≤◌, ℤ, pos, ◌+ℤ◌, ◌-ℤ◌, List, length, set, refl, sym, ap, ◌∙◌, ⊎_elim, subst, arith}
use Rattle.std.proofs.Common.{get_or-set_other, get_or-set_same, length-set}
use Rattle.std.specs.List.{between}
use borrow.Rule.Slice.PartMut.{put_mid}
use Rattle.std.proofs.lemmas.Bool.{cases_eq}
use Rattle.std.proofs.lemmas.List.{places}
use Rattle.std.proofs.lemmas.List.Edits.{get_or-between}
use Rattle.wave_defs.proofs.GridLaws.{part_at}
use Rattle.wave_defs.specs.Line.{predicted, correction, even_before, even_within, even_of}
use Rattle.wave_defs.specs.Lifted.{less_predicted, less_correction, plus_correction}
use Rattle.wave_defs.specs.Within.{IsWithin, AllWithin}
use Rattle.wave_defs.specs.Held.{Agrees, signal}
use Rattle.lift_rows.specs.Halves.{high_half, low_half, odd_half, inner_half}
use Rattle.wave_defs.proofs.Equations.{prediction-is, less_predicted-is, less_correction-is, even_of-is, plus_correction-is}
use Rattle.std.proofs.lemmas.Bool.Decides.{nat_tests}

pub predicted_by_parts : (n : ℕ) (o e ys : List ℤ) (a b z : ℤ) → 3 ≤ n → length o ≡ n → length e ≡ n → length ys ≡ n - 2 - 1
    → a ≡ (signal o 0 -ℤ predicted (signal e 1) (signal e 0) (signal e 1) (signal e 2))
    → b ≡ (signal o (n - 2) -ℤ predicted (signal e (n - 3)) (signal e (n - 2)) (signal e (n - 1)) (signal e (n - 1)))
    → z ≡ (signal o (n - 1) -ℤ predicted (signal e (n - 2)) (signal e (n - 1)) (signal e (n - 1)) (signal e (n - 2)))
    → Agrees (n - 2 - 1) (signal ys) (less_predicted (signal (between 1 (n - 2) o)) (signal (between 0 (n - 3) e)) (signal (between 1 (n - 2) e))
    (signal (between 2 (n - 1) e)) (signal (between 3 n e)))
    → Agrees n (signal (set (set (set (put_mid 1 (n - 2 - 1) o ys) 0 a) (n - 2) b) (n - 1) z)) (high_half (signal o) (signal e) n)
unfolding high_half
predicted_by_parts n o e ys a b z long lo le ly ea eb ez inner =
    let xs = put_mid 1 (n - 2 - 1) o ys in
    let lx : length xs ≡ n = grind (arith, places) in
    let l1 = length-set xs 0 a in
    let l2 = length-set (set xs 0 a) (n - 2) b in
    let f = high_half (signal o) (signal e) n in
    let r = signal (set (set (set xs 0 a) (n - 2) b) (n - 1) z) in
    let at_last = λ (j : ℕ) (h : j ≡ n - 1).
    let p : even_before (n - 1) ≡ n - 2 = omega arith in
    let q : even_within n (n - 1 + 1) ≡ n - 1 = omega arith in
    let s : even_within n (n - 1 + 2) ≡ n - 2 = omega arith in
    let t : r (n - 1) ≡ z = get_or-set_same (set (set xs 0 a) (n - 2) b) (n - 1) z (pos 0) (omega arith) in
    let k : r (n - 1) ≡ f (n - 1) = grind (arith, prediction-is, less_predicted-is) in
    subst (λ (i : ℕ). r i ≡ f i) (sym h) k in
    let at_before_last = λ (j : ℕ) (h : j ≡ n - 2).
    let p : even_before (n - 2) ≡ n - 3 = omega arith in
    let q : even_within n (n - 2 + 1) ≡ n - 1 = omega arith in
    let s : even_within n (n - 2 + 2) ≡ n - 1 = omega arith in
    let ne : n - 2 ≢ n - 1 = omega arith in
    let t : r (n - 2) ≡ b = get_or-set_other (set (set xs 0 a) (n - 2) b) (n - 1) (n - 2) z (pos 0) ne ∙ get_or-set_same (set xs 0 a) (n - 2) b (pos 0)
    (omega arith) in
    let k : r (n - 2) ≡ f (n - 2) = grind (arith, prediction-is, less_predicted-is) in
    subst (λ (i : ℕ). r i ≡ f i) (sym h) k in
    let at_first = λ (j : ℕ) (h : j ≡ 0).
    let p : even_before 0 ≡ 1 = refl in
    let q : even_within n (0 + 1) ≡ 1 = omega arith in
    let s : even_within n (0 + 2) ≡ 2 = omega arith in
    let t : r 0 ≡ a = get_or-set_other (set (set xs 0 a) (n - 2) b) (n - 1) 0 z (pos 0) (omega arith) ∙ get_or-set_other (set xs 0 a) (n - 2) 0 b (pos 0)
    (omega arith) ∙ get_or-set_same xs 0 a (pos 0) (omega arith) in
    let k : r 0 ≡ f 0 = grind (arith, prediction-is, less_predicted-is) in
    subst (λ (i : ℕ). r i ≡ f i) (sym h) k in
    let at_inner = λ (i : ℕ) (h : i < n - 2 - 1).
    let p : even_before (1 + i) ≡ i = omega arith in
    let q : even_within n (1 + i + 1) ≡ 2 + i = omega arith in
    let s : even_within n (1 + i + 2) ≡ 3 + i = omega arith in
    let t : r (1 + i) ≡ signal ys i = get_or-set_other (set (set xs 0 a) (n - 2) b) (n - 1) (1 + i) z (pos 0) (omega arith) ∙ get_or-set_other (set xs 0 a)
    (n - 2) (1 + i) b (pos 0) (omega arith) ∙ get_or-set_other xs 0 (1 + i) a (pos 0) (omega arith) ∙ part_at 1 (n - 2 - 1) i o ys (pos 0) (omega arith)
    (omega arith) in
    let g = inner.at i h in
    let go = get_or-between o 1 (n - 2) i (pos 0) (omega arith) in
    let g0 : signal (between 0 (n - 3) e) i ≡ signal e i = get_or-between e 0 (n - 3) i (pos 0) (omega arith) ∙ ap (signal e) (let u : 0 + i ≡ i =
    omega arith in u) in
    let g1 = get_or-between e 1 (n - 2) i (pos 0) (omega arith) in
    let g2 = get_or-between e 2 (n - 1) i (pos 0) (omega arith) in
    let g3 = get_or-between e 3 n i (pos 0) (omega arith) in
    let k : r (1 + i) ≡ f (1 + i) = grind (arith, prediction-is, less_predicted-is) in
    k in
    record {
      at = λ j h.
          ⊎_elim (at_last j)
          (λ (nl : j ≢ n - 1). ⊎_elim (at_before_last j)
          (λ (nb : j ≢ n - 2). ⊎_elim (at_first j)
          (λ (nf : j ≢ 0). let u : 1 + (j - 1) ≡ j = omega arith in subst (λ (i : ℕ). r i ≡ f i) u (at_inner (j - 1) (omega arith)))
          (cases_eq j 0))
          (cases_eq j (n - 2)))
          (cases_eq j (n - 1));
    }

-- the low samples, with the first one computed by itself
pub corrected_by_parts : (n : ℕ) (e d ys : List ℤ) (a : ℤ) → 1 ≤ n → length e ≡ n → length d ≡ n → length ys ≡ n - 1
    → a ≡ (signal e 0 -ℤ correction (signal d 0) (signal d 0))
    → Agrees (n - 1) (signal ys) (less_correction (signal (between 1 n e)) (signal (between 0 (n - 1) d)) (signal (between 1 n d)))
    → Agrees n (signal (set (put_mid 1 (n - 1) e ys) 0 a)) (low_half (signal e) (signal d))
unfolding low_half
corrected_by_parts n e d ys a long le ld ly ea inner =
    let xs = put_mid 1 (n - 1) e ys in
    let lx : length xs ≡ n = grind (arith, places) in
    let f = low_half (signal e) (signal d) in
    let r = signal (set xs 0 a) in
    let at_first = λ (j : ℕ) (h : j ≡ 0).
    let t : r 0 ≡ a = get_or-set_same xs 0 a (pos 0) (omega arith) in
    let k : r 0 ≡ f 0 = grind (arith, less_correction-is) in
    subst (λ (i : ℕ). r i ≡ f i) (sym h) k in
    let at_inner = λ (i : ℕ) (h : i < n - 1).
    let p : 1 + i - 1 ≡ i = omega arith in
    let t : r (1 + i) ≡ signal ys i = get_or-set_other xs 0 (1 + i) a (pos 0) (omega arith) ∙ part_at 1 (n - 1) i e ys (pos 0) (omega arith) (omega arith) in
    let g = inner.at i h in
    let g0 = get_or-between e 1 n i (pos 0) (omega arith) in
    let g1 : signal (between 0 (n - 1) d) i ≡ signal d i = get_or-between d 0 (n - 1) i (pos 0) (omega arith) ∙ ap (signal d) (let u : 0 + i ≡ i =
    omega arith in u) in
    let g2 = get_or-between d 1 n i (pos 0) (omega arith) in
    let k : r (1 + i) ≡ f (1 + i) = grind (arith, less_correction-is) in
    k in
    record {
      at = λ j h.
          ⊎_elim (at_first j)
          (λ (nf : j ≢ 0). let u : 1 + (j - 1) ≡ j = omega arith in subst (λ (i : ℕ). r i ≡ f i) u (at_inner (j - 1) (omega arith)))
          (cases_eq j 0);
    }

-- ---- the same for the inverse

pub odd_by_parts : (n : ℕ) (o e ys : List ℤ) (a b z : ℤ) → 3 ≤ n → length o ≡ n → length ys ≡ n - 2 - 1
    → a ≡ (signal o 0 +ℤ predicted (signal e 1) (signal e 0) (signal e 1) (signal e 2))
    → b ≡ (signal o (n - 2) +ℤ predicted (signal e (n - 3)) (signal e (n - 2)) (signal e (n - 1)) (signal e (n - 1)))
    → z ≡ (signal o (n - 1) +ℤ predicted (signal e (n - 2)) (signal e (n - 1)) (signal e (n - 1)) (signal e (n - 2)))
    → Agrees (n - 2 - 1) (signal ys) (inner_half (signal (between 1 (n - 2) o)) (signal e))
    → Agrees n (signal (set (set (set (put_mid 1 (n - 2 - 1) o ys) 0 a) (n - 2) b) (n - 1) z)) (odd_half (signal o) (signal e) n)
unfolding odd_half inner_half
odd_by_parts n o e ys a b z long lo ly ea eb ez inner =
    let xs = put_mid 1 (n - 2 - 1) o ys in
    let lx : length xs ≡ n = grind (arith, places) in
    let l1 = length-set xs 0 a in
    let l2 = length-set (set xs 0 a) (n - 2) b in
    let f = odd_half (signal o) (signal e) n in
    let r = signal (set (set (set xs 0 a) (n - 2) b) (n - 1) z) in
    let at_last = λ (j : ℕ) (h : j ≡ n - 1).
    let p : even_before (n - 1) ≡ n - 2 = omega arith in
    let q : even_within n (n - 1 + 1) ≡ n - 1 = omega arith in
    let s : even_within n (n - 1 + 2) ≡ n - 2 = omega arith in
    let t : r (n - 1) ≡ z = get_or-set_same (set (set xs 0 a) (n - 2) b) (n - 1) z (pos 0) (omega arith) in
    let k : r (n - 1) ≡ f (n - 1) = grind (arith, prediction-is) in
    subst (λ (i : ℕ). r i ≡ f i) (sym h) k in
    let at_before_last = λ (j : ℕ) (h : j ≡ n - 2).
    let p : even_before (n - 2) ≡ n - 3 = omega arith in
    let q : even_within n (n - 2 + 1) ≡ n - 1 = omega arith in
    let s : even_within n (n - 2 + 2) ≡ n - 1 = omega arith in
    let ne : n - 2 ≢ n - 1 = omega arith in
    let t : r (n - 2) ≡ b = get_or-set_other (set (set xs 0 a) (n - 2) b) (n - 1) (n - 2) z (pos 0) ne ∙ get_or-set_same (set xs 0 a) (n - 2) b (pos 0)
    (omega arith) in
    let k : r (n - 2) ≡ f (n - 2) = grind (arith, prediction-is) in
    subst (λ (i : ℕ). r i ≡ f i) (sym h) k in
    let at_first = λ (j : ℕ) (h : j ≡ 0).
    let p : even_before 0 ≡ 1 = refl in
    let q : even_within n (0 + 1) ≡ 1 = omega arith in
    let s : even_within n (0 + 2) ≡ 2 = omega arith in
    let t : r 0 ≡ a = get_or-set_other (set (set xs 0 a) (n - 2) b) (n - 1) 0 z (pos 0) (omega arith) ∙ get_or-set_other (set xs 0 a) (n - 2) 0 b (pos 0)
    (omega arith) ∙ get_or-set_same xs 0 a (pos 0) (omega arith) in
    let k : r 0 ≡ f 0 = grind (arith, prediction-is) in
    subst (λ (i : ℕ). r i ≡ f i) (sym h) k in
    let at_inner = λ (i : ℕ) (h : i < n - 2 - 1).
    let p : even_before (1 + i) ≡ i = omega arith in
    let q : even_within n (1 + i + 1) ≡ 2 + i = omega arith in
    let s : even_within n (1 + i + 2) ≡ 3 + i = omega arith in
    let t : r (1 + i) ≡ signal ys i = get_or-set_other (set (set xs 0 a) (n - 2) b) (n - 1) (1 + i) z (pos 0) (omega arith) ∙ get_or-set_other (set xs 0 a)
    (n - 2) (1 + i) b (pos 0) (omega arith) ∙ get_or-set_other xs 0 (1 + i) a (pos 0) (omega arith) ∙ part_at 1 (n - 2 - 1) i o ys (pos 0) (omega arith)
    (omega arith) in
    let g = inner.at i h in
    let go = get_or-between o 1 (n - 2) i (pos 0) (omega arith) in
    let k : r (1 + i) ≡ f (1 + i) = grind (arith, prediction-is) in
    k in
    record {
      at = λ j h.
          ⊎_elim (at_last j)
          (λ (nl : j ≢ n - 1). ⊎_elim (at_before_last j)
          (λ (nb : j ≢ n - 2). ⊎_elim (at_first j)
          (λ (nf : j ≢ 0). let u : 1 + (j - 1) ≡ j = omega arith in subst (λ (i : ℕ). r i ≡ f i) u (at_inner (j - 1) (omega arith)))
          (cases_eq j 0))
          (cases_eq j (n - 2)))
          (cases_eq j (n - 1));
    }

-- the even samples of the inverse, with the first one computed by itself
pub even_by_parts : (n : ℕ) (e d ys : List ℤ) (a : ℤ) → 1 ≤ n → length e ≡ n → length d ≡ n → length ys ≡ n - 1
    → a ≡ (signal e 0 +ℤ correction (signal d 0) (signal d 0))
    → Agrees (n - 1) (signal ys) (plus_correction (signal (between 1 n e)) (signal (between 0 (n - 1) d)) (signal (between 1 n d)))
    → Agrees n (signal (set (put_mid 1 (n - 1) e ys) 0 a)) (even_of (signal e) (signal d))
even_by_parts n e d ys a long le ld ly ea inner =
    let xs = put_mid 1 (n - 1) e ys in
    let lx : length xs ≡ n = grind (arith, places) in
    let f = even_of (signal e) (signal d) in
    let r = signal (set xs 0 a) in
    let at_first = λ (j : ℕ) (h : j ≡ 0).
    let t : r 0 ≡ a = get_or-set_same xs 0 a (pos 0) (omega arith) in
    let k : r 0 ≡ f 0 = grind (arith, even_of-is, plus_correction-is) in
    subst (λ (i : ℕ). r i ≡ f i) (sym h) k in
    let at_inner = λ (i : ℕ) (h : i < n - 1).
    let p : 1 + i - 1 ≡ i = omega arith in
    let t : r (1 + i) ≡ signal ys i = get_or-set_other xs 0 (1 + i) a (pos 0) (omega arith) ∙ part_at 1 (n - 1) i e ys (pos 0) (omega arith) (omega arith) in
    let g = inner.at i h in
    let g0 = get_or-between e 1 n i (pos 0) (omega arith) in
    let g1 : signal (between 0 (n - 1) d) i ≡ signal d i = get_or-between d 0 (n - 1) i (pos 0) (omega arith) ∙ ap (signal d) (let u : 0 + i ≡ i =
    omega arith in u) in
    let g2 = get_or-between d 1 n i (pos 0) (omega arith) in
    let k : r (1 + i) ≡ f (1 + i) = grind (arith, even_of-is, plus_correction-is) in
    k in
    record {
      at = λ j h.
          ⊎_elim (at_first j)
          (λ (nf : j ≢ 0). let u : 1 + (j - 1) ≡ j = omega arith in subst (λ (i : ℕ). r i ≡ f i) u (at_inner (j - 1) (omega arith)))
          (cases_eq j 0);
    }

-- the ends and the inner part of what fits 32 bits

module _ (m n : ℕ) (o e : ℕ → ℤ) (long : 3 ≤ n) (fits : AllWithin m n (odd_half o e n)) where
  pub first_fits : IsWithin m (o 0 +ℤ predicted (e 1) (e 0) (e 1) (e 2))
  unfolding odd_half
  first_fits = grind (arith, nat_tests, prediction-is)

  pub before_last_fits : IsWithin m (o (n - 2) +ℤ predicted (e (n - 3)) (e (n - 2)) (e (n - 1)) (e (n - 1)))
  unfolding odd_half
  before_last_fits = grind (arith, nat_tests, prediction-is)

  pub last_fits : IsWithin m (o (n - 1) +ℤ predicted (e (n - 2)) (e (n - 1)) (e (n - 1)) (e (n - 2)))
  unfolding odd_half
  last_fits = grind (arith, nat_tests, prediction-is)

  -- x are the high samples from the second one on
  pub inner_fits : (k : ℕ) (x : ℕ → ℤ) → k ≡ n - 3 → ((i : ℕ) → i < k → x i ≡ o (1 + i)) → AllWithin m k (inner_half x e)
  unfolding odd_half inner_half
  inner_fits k x ek same = grind (arith, nat_tests, prediction-is)
