use Rattle.plane_reader.specs.Lanes.{HasPlanes}
use Rattle.plane_reader.proofs.number_lanes.Halves.of.Given as goal

abbrev pub invariant-loop-place : goal.invariant-loop-place
invariant-loop-place l = HasPlanes l.fn.cells l.fn.column.block l.fn.from l.place l.halves
