use Rattle.plane_reader.proofs.HalvedBlocks.{HalvedTo}
use Rattle.plane_reader.proofs.restoring.restore_dcs.Given as goal

abbrev pub invariant-loop-r : goal.invariant-loop-r
invariant-loop-r l = record { so_far : HalvedTo l.r l.plan.weights.shifts l.fn.low l.initial.blocks l.blocks }
