use Rattle.std.proofs.Common.{sym}
use Rattle.block_masks.proofs.SegmentLists.{length-numbers_at, dc_get}
use Rattle.block_masks.proofs.segment_masks.SegmentMasks.dcs.Goals as goal

pub returns-clause-long : goal.returns-clause-long
returns-clause-long c =
    let a = c.self.inside in
    rw (← c.self.view_is, c.deref.ensures.value) (sym (length-numbers_at a.words.items a.step a.dcs.items))

pub returns-clause-dcs : goal.returns-clause-dcs
returns-clause-dcs c r =
    let a = c.self.inside in
    rw (← c.self.view_is, c.deref.ensures.value) (dc_get a.words.items a.step a.dcs.items r)
