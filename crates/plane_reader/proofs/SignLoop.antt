-- What a loop over signs keeps.
use Rattle.std.proofs.Common.{ℕ, Bool, List}
use Rattle.block_masks.specs.Masks.{Shows}
use Rattle.bit_pipe.specs.Sources.{SourceOf}
use Rattle.bit_pipe.specs.SourceState.{SourceState}
use Rattle.item_defs.specs.Scripts.{Script}
use Rattle.bit_pipe.proofs.ScriptReading.{Leaves}
use Rattle.plane_defs.specs.States.{State, with_minus}
use Rattle.plane_defs.specs.WordScripts.{signs_script}

-- the signs of these positions are left, and the mask has the others
pub record SignsLeft {I : Type 0} (k : SourceOf I) (all : Script State State) (places : List ℕ) (s : State) (mask : ℕ) (old now : SourceState I) : Type 0 where
  pub minus : ℕ → Bool
  pub shown : Shows mask minus 0 64
  pub left : Leaves k all (signs_script places (with_minus s minus)) old now
