use Rattle.std.proofs.Common.{ap, w32, of_z}
use Rattle.plane_reader.proofs.DeepLanes.{deep_lanes}
use Rattle.plane_reader.proofs.deep.deep_of_sixteen.Goals as goal

pub returns : goal.returns
returns c = deep_lanes c.args.marks.now c.args.first c.args.plane _ c.requires.within c.read.ensures (ap (of_z w32) c.from.ensures) c.requires.low
