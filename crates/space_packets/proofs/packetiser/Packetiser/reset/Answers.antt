use Rattle.std.proofs.Common.{refl}
use Rattle.space_packets.specs.Going.{same_progress}
use Rattle.space_packets.proofs.Buffers.{header_alone}
use Rattle.space_packets.proofs.packetiser.Packetiser.reset.Goals as goal

pub returns : goal.returns
returns c = rw (← c.self.view_is) (same_progress refl refl refl refl refl
    (header_alone c.self.inside.buffer.items c.truncate.new.self.items c.truncate.ensures.items))
