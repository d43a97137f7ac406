use Rattle.plane_reader.proofs.RestoredBlocks.{RestoredTo}
use Rattle.plane_reader.proofs.restoring.restore_masks.Given as goal

abbrev pub invariant-loop-r : goal.invariant-loop-r
invariant-loop-r l = record { so_far : RestoredTo l.r l.fn.plan.weights.shifts l.fn.plan.q l.fn.plan.plane l.initial.cells l.cells }
