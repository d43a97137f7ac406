use Rattle.std.proofs.Common.{arith}
use Rattle.plane_reader.proofs.BlockReads.{due_marks}
use Rattle.plane_reader.proofs.stages.take_parents.Goals as goal

pub returns-clause-parents : goal.returns-clause-parents
returns-clause-parents g c = λ block s is above.
    c.types.ensures.types s _ is (due_marks c.args.plan.now.plane c.args.plan.now.weights.shifts block c.except.ensures.if_known c.ranges.above.fits
    c.args.plan.now.shown above 1 3 (omega arith) (omega arith))
