use Rattle.block_masks.proofs.Maskings.{shows_beside, beside_within}
use Rattle.block_masks.proofs.mask_sets.except.Goals as goal

pub returns-clause-within : goal.returns-clause-within
returns-clause-within c n fits = beside_within c.args.a c.args.b n fits

pub returns-clause-if_known : goal.returns-clause-if_known
returns-clause-if_known c f g start count p q = shows_beside p q
