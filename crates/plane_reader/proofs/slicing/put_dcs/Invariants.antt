use Rattle.plane_reader.proofs.SlicedCells.{HasDcs}
use Rattle.plane_reader.proofs.slicing.put_dcs.Given as goal

abbrev pub invariant-loop-b : goal.invariant-loop-b
invariant-loop-b l = HasDcs l.b l.initial.part l.fn.dcs l.part
