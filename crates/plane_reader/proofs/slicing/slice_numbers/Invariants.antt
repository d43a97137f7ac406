use Rattle.std.proofs.Common.{◌*◌, min, length}
use Rattle.plane_reader.proofs.SlicedCells.{SlicedTo}
use Rattle.plane_reader.proofs.slicing.slice_numbers.Given as goal

abbrev pub invariant-loop-g : goal.invariant-loop-g
invariant-loop-g l = SlicedTo (min (4096 * l.g) (length l.initial.blocks)) l.initial.blocks l.blocks
