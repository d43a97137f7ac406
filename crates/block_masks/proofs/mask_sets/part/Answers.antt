use Rattle.block_masks.proofs.Maskings.{shows_part, part_within}
use Rattle.block_masks.proofs.mask_sets.part.Goals as goal

pub returns-clause-if_known : goal.returns-clause-if_known
returns-clause-if_known c f start whole p within = shows_part c.args.at c.args.count c.requires.count p within

pub returns-clause-within : goal.returns-clause-within
returns-clause-within c = part_within c.args.mask c.args.at c.args.count c.requires.count
