use Rattle.std.proofs.Common.{arith}
use Rattle.plane_reader.proofs.NumberLanes.{adds_first, adds_none}
use Rattle.plane_reader.proofs.number_lanes.Halves.add_plane.Goals as goal

pub returns-else-mask-ne0-2 : goal.returns-else-mask-ne0-2
returns-else-mask-ne0-2 c = adds_first c.requires.whole (omega (arith, c.if-mask-ne0-2.false)) c.with_bits-self.ensures

pub returns-else-mask-ne0 : goal.returns-else-mask-ne0
returns-else-mask-ne0 c = adds_none c.args.place c.requires.whole c.if-mask-ne0.false
