use Rattle.block_masks.proofs.Maskings.{shows_either}
use Rattle.block_masks.proofs.mask_sets.either.Goals as goal

pub returns : goal.returns
returns c f g start count p q = shows_either p q
