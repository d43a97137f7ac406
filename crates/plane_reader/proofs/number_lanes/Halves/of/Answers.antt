use Rattle.std.proofs.Common.{refl}
use Rattle.plane_reader.proofs.NumberLanes.{no_plane, are_whole, plane_more}
use Rattle.plane_reader.proofs.number_lanes.Halves.of.Goals as goal

pub loop-place-init : goal.loop-place-init
loop-place-init c = no_plane c.args.cells.now c.args.column.block c.args.from refl refl refl refl

pub add_plane-requires-clause-whole : goal.add_plane-requires-clause-whole
add_plane-requires-clause-whole c = are_whole c.loop-place.invariant

pub loop-place-preserved : goal.loop-place-preserved
loop-place-preserved c = plane_more c.loop-place.invariant c.mask_of.ensures.mask c.add_plane.ensures
