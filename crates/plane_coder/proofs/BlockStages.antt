-- The stages of a block by its depth.
use Rattle.std.proofs.Common.{◌≡◌, ℕ, ◌<◌, ◌≤◌, inl, inr, ℤ, true, false, List, [], nat_lt, ap, ◌∙◌, subst, arith, Result}
use Rattle.bit_pipe.specs.Sinks.{SinkOf}
use Rattle.bit_pipe.specs.SinkState.{SinkState}
use Rattle.bit_pipe.specs.declared.fault.PutFault.{PutFault}
use Rattle.base_122.specs.declared.book.Book.{Book}
use Rattle.plane_defs.specs.declared.entries.Entry.{Entry}
use Rattle.plane_defs.specs.declared.stages.Stage.{Stage}
use Rattle.plane_defs.specs.declared.stages.Stage.TheVariants as stages
use Rattle.plane_defs.specs.Entries.{stage_number, block_entries, dc_bits, parents, children, grandchildren, refinement}
use Rattle.block_masks.specs.declared.gaggle.Gaggle.{Gaggle}
use Rattle.block_masks.specs.declared.plan.CodedPlane.{CodedPlane}
use Rattle.plane_coder.specs.Spells.{Spells}
use Rattle.std.proofs.lemmas.Bool.Decides.{nat_tests}
use Rattle.plane_coder.specs.Collected.{HasNoWords}
use Rattle.plane_defs.proofs.Equations.{dc_entries, parents_entries, children_entries, grandchildren_entries, refinement_entries}

below : (plane d : ℕ) → plane < d → nat_lt plane d ≡ true
below plane d lt = grind arith

not_below : (plane d : ℕ) → d ≤ plane → nat_lt plane d ≡ false
not_below plane d le = grind arith

-- what a stage sends of each block that is deep enough
abbrev pub Deep : Stage → (List ℤ → List ℕ → ℕ → List Entry) → Type 0
Deep stage f = (block : List ℤ) (weights : List ℕ) (plane q d : ℕ) → plane < d → f block weights plane ≡ block_entries stage block d weights plane q

pub deep_parents : Deep stages.Parents parents
deep_parents block weights plane q d lt = grind (arith, nat_tests, dc_entries, parents_entries, children_entries, grandchildren_entries, refinement_entries)

pub deep_children : Deep stages.Children children
deep_children block weights plane q d lt = grind (arith, nat_tests, dc_entries, parents_entries, children_entries, grandchildren_entries, refinement_entries)

pub deep_grandchildren : Deep stages.Grandchildren grandchildren
deep_grandchildren block weights plane q d lt = grind (
  arith,
  nat_tests,
  dc_entries,
  parents_entries,
  children_entries,
  grandchildren_entries,
  refinement_entries,
)

pub deep_refinement : Deep stages.Refinement refinement
deep_refinement block weights plane q d lt = grind (arith, nat_tests, dc_entries, parents_entries, children_entries, grandchildren_entries, refinement_entries)

pub shallow : (stage : Stage) (block : List ℤ) (weights : List ℕ) (plane q d : ℕ) → (stage ≡ stages.DcBits → ⊥) → d ≤ plane →
    block_entries stage block d weights plane q ≡ []
shallow stage block weights plane q d other le = grind (
  arith,
  nat_tests,
  not_below,
  dc_entries,
  parents_entries,
  children_entries,
  grandchildren_entries,
  refinement_entries,
)

pub first_stage : (n : ℕ) (block : List ℤ) (weights : List ℕ) (plane q d : ℕ) → n ≡ 0 → block_entries (stage_number n) block d weights plane q
    ≡ dc_bits block weights plane q
first_stage n block weights plane q d is = grind (arith, nat_tests, dc_entries, parents_entries, children_entries, grandchildren_entries, refinement_entries)

pub last_stage : (n : ℕ) → HasNoWords n → (n ≡ 0 → ⊥) → stage_number n ≡ stages.Refinement
last_stage n (inl first) other = absurd (other first)
last_stage n (inr last) other = ap stage_number last

module _ {S : Type 0} {k : SinkOf S} {book : Book} {a c : Gaggle} {r : Result (Unit {0}) PutFault} {s t : SinkState S} where
  pub spells_deep : (f : List ℤ → List ℕ → ℕ → List Entry) (stage : Stage) (block block' : List ℤ) (plan plan' : CodedPlane) (d : ℕ) → Deep stage f →
      block' ≡ block → plan' ≡ plan → plan.plane < d →
      Spells k book a c r s t (f block' plan'.weights.shifts plan'.plane) →
      Spells k book a c r s t (block_entries stage block d plan.weights.shifts plan.plane plan.q)
  spells_deep f stage block block' plan plan' d deep e h lt p =
      subst (λ l. Spells k book a c r s t l) (ap (λ b. f b plan'.weights.shifts plan'.plane) e ∙ ap (λ (q : CodedPlane). f block q.weights.shifts q.plane)
      h ∙ deep block plan.weights.shifts plan.plane plan.q d lt) p
