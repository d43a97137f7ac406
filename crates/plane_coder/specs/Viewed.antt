-- The numbers of a block as masks.
use Rattle.std.specs.Prelude.{ℕ, ◌+◌, ℤ, pos, List}
use lib.ListN.{get_or}
use Rattle.item_defs.specs.Bits.{bit}
use Rattle.wave_defs.specs.Held.{block_at}
use Rattle.plane_defs.specs.Sets.{magnitude, significant}
use Rattle.plane_defs.specs.Entries.{negative}
use Rattle.block_masks.specs.Masks.{Shows}
use Rattle.plane_coder.specs.declared.masks.Masks.{Masks}
use Rattle.plane_coder.specs.declared.plane_masks.PlaneMasks.{PlaneMasks}

-- these are the masks of a block in a plane
pub record IsView (block : List ℤ) (plane : ℕ) (m : Masks) : Type 0 where
  pub above : Shows m.above (significant block (plane + 1)) 0 64
  pub bits : Shows m.bits (λ p. bit (magnitude block p) plane) 0 64
  pub negative : Shows m.negative (λ p. negative (get_or block p (pos 0))) 0 64

-- the block that these are the masks of
abbrev pub block_in : PlaneMasks → List ℤ
block_in m = block_at m.segment.now.numbers m.r
