use Rattle.block_masks.proofs.Maskings.{shows_joined, joined_within}
use Rattle.block_masks.proofs.mask_sets.joined.Goals as goal

pub returns-clause-within : goal.returns-clause-within
returns-clause-within c n small = joined_within c.args.at n c.requires.at c.requires.low c.requires.high small

pub returns-clause-if_known : goal.returns-clause-if_known
returns-clause-if_known c f start count p q = shows_joined c.args.at c.requires.at c.requires.low c.requires.high p q
