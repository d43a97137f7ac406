use Rattle.std.proofs.Common.{arith}
use Rattle.block_masks.proofs.SegmentLists.{length-numbers_at}
use Rattle.block_masks.proofs.segment_masks.SegmentMasks.len.Goals as goal

pub returns : goal.returns
returns c =
    let a = c.self.inside in
    rw (← c.self.view_is) (omega (arith, c.len.ensures, a.dcs.ok.0, length-numbers_at a.words.items a.step a.dcs.items))
