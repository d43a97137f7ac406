use Rattle.std.proofs.Common.{◌<◌, ◌*◌, length, arith}
use Rattle.plane_reader.proofs.RestoredBlocks.{restored_start, reached_still, restored_more}
use Rattle.plane_reader.proofs.restoring.restore_masks.Goals as goal

pub loop-r-init : goal.loop-r-init
loop-r-init c = record { so_far = restored_start c.args.plan.weights.shifts c.args.plan.q c.args.plan.plane c.args.cells.now }

pub restore_block-requires-clause-reached : goal.restore_block-requires-clause-reached
restore_block-requires-clause-reached c =
    let inside : 64 * c.loop-r.r < length c.args.cells.now = omega (arith, c.loop-r-test.true) in
    let reached = c.requires.reached c.loop-r.r inside in
    rw (c.of-rest.ensures.plan, c.of-column.ensures.block) (reached_still c.requires.low inside c.loop-r.invariant.so_far reached)

pub loop-r-preserved : goal.loop-r-preserved
loop-r-preserved c =
    let inside : 64 * c.loop-r.r < length c.args.cells.now = omega (arith, c.loop-r-test.true) in
    let block = rw (c.of-rest.ensures.plan, c.of-column.ensures.block) at c.restore_block.ensures in
    record { so_far = restored_more c.requires.low inside c.loop-r.invariant.so_far block }

pub returns-clause-restored : goal.returns-clause-restored
returns-clause-restored c = λ r lt. c.loop-r.invariant.so_far.done r (omega (arith, lt, c.loop-r-test.false, c.requires.whole)) lt
