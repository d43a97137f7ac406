-- A square of numbers that are set one after another.
use Rattle.std.proofs.Common.{◌≡◌, ℕ, zero, suc, ◌+◌, ◌/◌, ◌%◌, ◌<◌, ℤ, pos, List, get_or, sym, ap, ◌∙◌, arith}
use Rattle.wave_defs.specs.Blocks.{Place}
use Rattle.block_families.specs.Scattering.{in_square, SetsSquare}
use Rattle.inverse_strip.proofs.CellLemmas.{place_same}

apart : (p : Place) (j k : ℕ) → j < 4 → k < 4 → (j ≡ k → ⊥) → in_square p j ≡ in_square p k → ⊥
apart p j k hj hk other same =
    let row : p.row + j / 2 ≡ p.row + k / 2 = ap (λ (q : Place). q.row) same in
    let column : p.column + j % 2 ≡ p.column + k % 2 = ap (λ (q : Place). q.column) same in
    other (omega arith)

pub corner : (p q : Place) (k : ℕ) → q.band ≡ p.band → q.row ≡ p.row + k / 2 → q.column ≡ p.column + k % 2 → q ≡ in_square p k
corner p q k eb er ec = place_same q (in_square p k) eb er ec

module _ (n0 n1 n2 n3 n4 : Place → ℤ) (p q0 q1 q2 q3 : Place) (values : List ℤ)
    (e0 : q0 ≡ in_square p 0) (e1 : q1 ≡ in_square p 1) (e2 : q2 ≡ in_square p 2) (e3 : q3 ≡ in_square p 3)
    (v0 : n1 q0 ≡ get_or values 0 (pos 0)) (v1 : n2 q1 ≡ get_or values 1 (pos 0)) (v2 : n3 q2 ≡ get_or values 2 (pos 0)) (v3 : n4 q3 ≡ get_or values 3 (pos 0))
    (o0 : (q : Place) → (q ≡ q0 → ⊥) → n1 q ≡ n0 q) (o1 : (q : Place) → (q ≡ q1 → ⊥) → n2 q ≡ n1 q)
    (o2 : (q : Place) → (q ≡ q2 → ⊥) → n3 q ≡ n2 q) (o3 : (q : Place) → (q ≡ q3 → ⊥) → n4 q ≡ n3 q) where
  corner_apart : (j k : ℕ) (q : Place) → j < 4 → k < 4 → (j ≡ k → ⊥) → q ≡ in_square p k → in_square p j ≡ q → ⊥
  corner_apart j k q hj hk other eq same = apart p j k hj hk other (same ∙ eq)

  there : (k : ℕ) → k < 4 → n4 (in_square p k) ≡ get_or values k (pos 0)
  there zero h =
      o3 (in_square p 0) (corner_apart 0 3 q3 (omega arith) (omega arith) (λ e. absurd (omega arith)) e3)
      ∙ o2 (in_square p 0) (corner_apart 0 2 q2 (omega arith) (omega arith) (λ e. absurd (omega arith)) e2)
      ∙ o1 (in_square p 0) (corner_apart 0 1 q1 (omega arith) (omega arith) (λ e. absurd (omega arith)) e1) ∙ ap n1 (sym e0) ∙ v0
  there (suc zero) h =
      o3 (in_square p 1) (corner_apart 1 3 q3 (omega arith) (omega arith) (λ e. absurd (omega arith)) e3)
      ∙ o2 (in_square p 1) (corner_apart 1 2 q2 (omega arith) (omega arith) (λ e. absurd (omega arith)) e2) ∙ ap n2 (sym e1) ∙ v1
  there (suc (suc zero)) h =
      o3 (in_square p 2) (corner_apart 2 3 q3 (omega arith) (omega arith) (λ e. absurd (omega arith)) e3) ∙ ap n3 (sym e2) ∙ v2
  there (suc (suc (suc zero))) h = ap n4 (sym e3) ∙ v3
  there (suc (suc (suc (suc k)))) h = absurd (omega arith)

  pub sets_square : SetsSquare n0 n4 p values
  sets_square = record {
    there = there;
    others = λ q out.
        o3 q (λ e. out 3 (omega arith) (e ∙ e3)) ∙ o2 q (λ e. out 2 (omega arith) (e ∙ e2)) ∙ o1 q (λ e. out 1 (omega arith) (e ∙ e1))
        ∙ o0 q (λ e. out 0 (omega arith) (e ∙ e0));
  }
