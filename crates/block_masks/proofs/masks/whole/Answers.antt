use Rattle.block_masks.proofs.masks.whole.Goals as goal

pub joined-requires-clause-low : goal.joined-requires-clause-low
joined-requires-clause-low c = c.joined-low.ensures.within 16 c.requires.second

pub joined-requires-clause-high : goal.joined-requires-clause-high
joined-requires-clause-high c = c.joined-high.ensures.within 16 c.requires.fourth

pub returns : goal.returns
returns c f first second third fourth = c.joined.ensures.if_known f 0 32 (c.joined-low.ensures.if_known f 0 16 first second)
    (c.joined-high.ensures.if_known f 32 16 third fourth)
