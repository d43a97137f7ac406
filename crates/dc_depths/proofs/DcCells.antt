-- DCs that are written.
use Rattle.std.proofs.Common.{◌≡◌, ℕ, ◌+◌, ◌*◌, ◌<◌, ◌≤◌, ℤ, pos, List, length, cond, true, false, refl, sym, ◌∙◌, arith, inl, inr, nat_lt, set}
use Rattle.std.proofs.Common.{get_or-set_same, get_or-set_other, length-set}
use Rattle.std.specs.Int.{div_ceil}
use Rattle.std.proofs.lemmas.Bool.{cases_eq}
use Rattle.std.proofs.lemmas.Bool.Decides.{nat_tests}
use Rattle.number_defs.specs.Cells.{cell_at}
use Rattle.dc_depths.specs.Dcs.{SetsDcs}

pub dcs_same : (cells : List ℤ) → SetsDcs (cell_at 64 cells) cells cells
dcs_same cells = record { size = refl; dcs = λ r lt. refl; others = λ i none. refl }

pub dcs_as : {old new : List ℤ} (dc next : ℕ → ℤ) → ((r : ℕ) → r * 64 < length old → dc r ≡ next r) → SetsDcs dc old new → SetsDcs next old new
dcs_as dc next same s = record { size = s.size; dcs = λ r lt. s.dcs r lt ∙ same r lt; others = s.others }

-- the DC of block i is set
pub dcs_set : {old new : List ℤ} (dc next : ℕ → ℤ) (i : ℕ) (z : ℤ) → i * 64 < length old → next i ≡ z → ((r : ℕ) → (r ≡ i → ⊥) → next r ≡ dc r) →
    SetsDcs dc old new → SetsDcs next old (set new (i * 64) z)
dcs_set {old} {new} dc next i z lt here there s = record {
  size = length-set new (i * 64) z ∙ s.size;
  dcs = λ r within. elim (cases_eq r i) [
    | inl e ↦ rw e (get_or-set_same new (i * 64) z (pos 0) (omega (arith, lt, s.size)) ∙ sym here)
    | inr ne ↦ get_or-set_other new (i * 64) (r * 64) z (pos 0) (λ e. ne (omega (arith, e))) ∙ s.dcs r within ∙ sym (there r ne)
  ];
  others = λ j none. get_or-set_other new (i * 64) j z (pos 0) (none i) ∙ s.others j none;
}

-- other DCs are set in their place
pub dcs_then : {first old new : List ℤ} (dc next last : ℕ → ℤ) → SetsDcs dc first old → SetsDcs next old new →
    ((r : ℕ) → r * 64 < length first → next r ≡ last r) → SetsDcs last first new
dcs_then dc next last s t same = record {
  size = t.size ∙ s.size;
  dcs = λ r lt. t.dcs r (omega (arith, lt, s.size)) ∙ same r lt;
  others = λ i none. t.others i none ∙ s.others i none;
}

-- ---- the first DCs are set

abbrev pub set_below : (next : ℕ → ℤ) → ℕ → List ℤ → ℕ → ℤ
set_below next i cells r = cond (nat_lt r i) (next r) (cell_at 64 cells r)

-- the next one is as it was
pub not_set : (next : ℕ → ℤ) (i : ℕ) (cells : List ℤ) → set_below next i cells i ≡ cell_at 64 cells i
not_set next i cells = let t : nat_lt i i ≡ false = grind (arith, nat_tests) in rw t refl

pub set_none : (next : ℕ → ℤ) (cells : List ℤ) → SetsDcs (set_below next 0 cells) cells cells
set_none next cells = dcs_as (cell_at 64 cells) (set_below next 0 cells)
    (λ r lt. let t : nat_lt r 0 ≡ false = grind (arith, nat_tests) in rw t refl) (dcs_same cells)

pub set_more : {old new : List ℤ} (next : ℕ → ℤ) (i : ℕ) (z : ℤ) → i * 64 < length old → next i ≡ z → SetsDcs (set_below next i old) old new →
    SetsDcs (set_below next (i + 1) old) old (set new (i * 64) z)
set_more {old} next i z lt is s = dcs_set (set_below next i old) (set_below next (i + 1) old) i z lt here there s
  where
    here : set_below next (i + 1) old i ≡ z
    here = (let t : nat_lt i (i + 1) ≡ true = grind (arith, nat_tests) in rw t is)

    there : (r : ℕ) → (r ≡ i → ⊥) → set_below next (i + 1) old r ≡ set_below next i old r
    there r ne = let t : nat_lt r (i + 1) ≡ nat_lt r i = grind (arith, nat_tests) in rw t refl

pub set_all : {old new : List ℤ} (next : ℕ → ℤ) (i : ℕ) → div_ceil (length old) 64 ≤ i → SetsDcs (set_below next i old) old new → SetsDcs next old new
set_all {old} next i le s = dcs_as (set_below next i old) next (λ r lt. let less : r < i = omega (arith, lt, le) in let t : nat_lt r i ≡ true =
    grind (arith, nat_tests) in rw t refl) s
