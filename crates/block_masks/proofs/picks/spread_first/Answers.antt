use Rattle.block_masks.proofs.Picking.{first_spread}
use Rattle.block_masks.proofs.picks.spread_first.Goals as goal

pub returns : goal.returns
returns c = rw c.from.ensures (first_spread c.args.due c.args.bits c.requires.due c.requires.bits)
