use Rattle.std.proofs.Common.{ap, length, arith}
use Rattle.std.proofs.lemmas.List.{nil_from_length}
use Rattle.block_masks.specs.SegmentNumbers.{numbers_at}
use Rattle.block_masks.proofs.SegmentLists.{length-numbers_at}
use Rattle.block_masks.proofs.segment_masks.SegmentMasks.clear.Goals as goal

pub returns-clause-numbers : goal.returns-clause-numbers
returns-clause-numbers c =
    let a = c.self.inside in
    nil_from_length (numbers_at a.words.items a.step c.clear.new.self.items)
    (omega (arith, length-numbers_at a.words.items a.step c.clear.new.self.items, ap length c.clear.ensures.items))
