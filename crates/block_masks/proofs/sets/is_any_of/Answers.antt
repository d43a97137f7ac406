use Rattle.std.proofs.Common.{◌+◌}
use Rattle.block_masks.proofs.Viewing.{any_from_zero}
use Rattle.block_masks.proofs.sets.is_any_of.Goals as goal

pub returns : goal.returns
returns c f shown = any_from_zero f c.args.at c.args.count
    (c.is_any.ensures f (0 + c.args.at) c.args.count (c.part.ensures.if_known f 0 64 shown c.requires.within))
