use Rattle.std.proofs.Common.{◌*◌, min, length}
use Rattle.plane_reader.proofs.JoinedCells.{JoinedTo}
use Rattle.plane_reader.proofs.joining.join_numbers.Given as goal

abbrev pub invariant-loop-g : goal.invariant-loop-g
invariant-loop-g l = JoinedTo (min (4096 * l.g) (length l.initial.cells)) l.initial.cells l.cells
