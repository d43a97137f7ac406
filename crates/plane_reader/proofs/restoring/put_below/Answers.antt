use Rattle.std.proofs.Common.{arith}
use Rattle.plane_reader.proofs.RestoredBlocks.{puts_none, puts_some}
use Rattle.plane_reader.proofs.restoring.put_below.Goals as goal

pub returns-then-down-plane : goal.returns-then-down-plane
returns-then-down-plane c = puts_some c.requires.low c.requires.some c.if-down-plane.true c.put_mask.ensures

pub returns-else-down-plane : goal.returns-else-down-plane
returns-else-down-plane c = puts_none (omega (arith, c.if-down-plane.false))
