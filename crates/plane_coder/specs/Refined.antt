-- The positions of a block whose bits refine a number, beside their bits. (This project's own.)
use Rattle.std.specs.Prelude.{ℕ}
use Rattle.item_defs.specs.Bits.{bit}
use Rattle.plane_defs.specs.Sets.{magnitude, refined}
use Rattle.block_masks.specs.declared.paired.PairedFours.{PairedFours}
use Rattle.block_masks.specs.Masks.{Shows}
use Rattle.block_masks.specs.Paired.{ArePaired}
use Rattle.plane_coder.specs.declared.plane_masks.PlaneMasks.{PlaneMasks}
use Rattle.plane_coder.specs.Viewed.{block_in}

-- these are octets of what is refined and of the plane's bits
pub record IsRefined (masks : PlaneMasks) (fours : PairedFours) : Type 0 where
  pub due : ℕ
  pub bits : ℕ
  pub due_shown : Shows due (refined (block_in masks) masks.plan.now.weights.shifts masks.plan.now.plane) 0 64
  pub bits_shown : Shows bits (λ p. bit (magnitude (block_in masks) p) masks.plan.now.plane) 0 64
  pub paired : ArePaired due bits fours
