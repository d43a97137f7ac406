use Rattle.std.proofs.Common.{arith}
use Rattle.std.proofs.lemmas.Grind.{common_steps}
use Rattle.block_masks.specs.Slices.{mask_in}
use Rattle.block_masks.proofs.slices.mask_of.Goals as goal

pub returns : goal.returns
unfolding mask_in
returns c = grind (arith, common_steps)
