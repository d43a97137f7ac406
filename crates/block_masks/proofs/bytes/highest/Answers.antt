use Rattle.block_masks.proofs.ByteLanes.{highest_bits, highest_small}
use Rattle.block_masks.proofs.bytes.highest.Goals as goal

pub returns-clause-if_known : goal.returns-clause-if_known
returns-clause-if_known c = highest_bits c.args.bytes c.requires.long c.requires.few

pub returns-clause-small : goal.returns-clause-small
returns-clause-small c = highest_small c.args.bytes c.requires.long c.requires.few
