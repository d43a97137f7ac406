use Rattle.segment_code.proofs.Holding.{held_none}
use Rattle.segment_code.proofs.blocks.SegmentBlocks.clear.Goals as goal

pub invariant_of-self : goal.invariant_of-self
invariant_of-self c =
    let marks = c.clear-2.ensures in
    held_none c.self.invariant c.clear.new.self c.clear-2.new.self c.clear.ensures.most c.clear.ensures.numbers marks.items marks.len marks.capacity
