-- The words of a stage of a block have at most four bits.
use Rattle.std.proofs.Common.{ℕ, List, [], ◌∷◌, sym, subst}
use Rattle.std.proofs.Common.{ℤ}
use Rattle.std.specs.List.{flat_map}
use Rattle.plane_defs.specs.declared.stages.Stage.{Stage}
use Rattle.plane_defs.specs.Entries.{IsEntry}
use Rattle.plane_defs.specs.Steps.{Step, block_steps}
use Rattle.plane_defs.specs.StepLaws.{entries_of}
use Rattle.plane_defs.proofs.Fitting.{Fit, fit_block}
use Rattle.plane_defs.proofs.ReadingTexts.{steps_entries}
use Rattle.plane_defs.proofs.Above.{all_append}
use Rattle.plane_defs.proofs.StepItems.{Fits}

-- ---- a stage of a block

fits_from : (steps : List Step) → Fit (entries_of steps) → Fits steps
fits_from [] fit = tt
fits_from (s ∷ steps) fit = (fit.0, fits_from steps fit.1)

pub block_fits : (stage : Stage) (block : List ℤ) (d : ℕ) (weights : List ℕ) (plane q : ℕ) → Fits (block_steps stage block d weights plane q)
block_fits stage block d weights plane q =
    fits_from (block_steps stage block d weights plane q)
    (subst Fit (sym (steps_entries stage block d weights plane q)) (fit_block stage block d weights plane q))

pub flat_fits : {X : Type 0} (f : X → List Step) → ((x : X) → Fits (f x)) → (xs : List X) → Fits (flat_map f xs)
flat_fits f each [] = tt
flat_fits f each (x ∷ xs) = all_append (λ s. IsEntry s.entry) (f x) (flat_map f xs) (each x) (flat_fits f each xs)
