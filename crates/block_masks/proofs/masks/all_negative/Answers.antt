use Rattle.std.proofs.Common.{get_or, pos}
use Rattle.plane_defs.specs.Entries.{negative as is_negative}
use Rattle.block_masks.proofs.masks.all_negative.Goals as goal

pub returns : goal.returns
returns c = c.whole.ensures (λ p. is_negative (get_or c.args.block.now p (pos 0))) c.negative.ensures c.negative-2.ensures c.negative-3.ensures
    c.negative-4.ensures
