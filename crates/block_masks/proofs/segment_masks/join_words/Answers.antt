use Rattle.std.proofs.Common.{arith}
use Rattle.block_masks.proofs.SegmentJoining.{none_joined, more_joined}
use Rattle.block_masks.proofs.segment_masks.join_words.Goals as goal

pub loop-r-init : goal.loop-r-init
loop-r-init c = none_joined c.args.to c.args.from c.args.words.now

pub loop-r-preserved : goal.loop-r-preserved
loop-r-preserved c =
    more_joined (omega (arith, c.requires.order, c.loop-r-test.true)) (omega (arith, c.requires.within, c.loop-r-test.true)) c.either.type_inv
    c.loop-r.invariant c.either.ensures
