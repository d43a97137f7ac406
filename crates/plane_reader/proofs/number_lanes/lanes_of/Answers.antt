use Rattle.plane_reader.proofs.PartLanes.{lanes_are}
use Rattle.plane_reader.proofs.number_lanes.lanes_of.Goals as goal

pub returns : goal.returns
returns c = lanes_are c.args.mask
