use Rattle.block_masks.proofs.Maskings.{any_shown}
use Rattle.block_masks.proofs.mask_sets.is_any.Goals as goal

pub returns : goal.returns
returns c f start count p = any_shown c.ranges.mask.fits p
