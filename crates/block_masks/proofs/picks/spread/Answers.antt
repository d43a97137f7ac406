use Rattle.block_masks.proofs.Picking.{are_spread}
use Rattle.block_masks.proofs.picks.spread.Goals as goal

pub returns : goal.returns
returns c = rw c.from.ensures (are_spread c.args.due c.args.word c.requires.due c.requires.word)
