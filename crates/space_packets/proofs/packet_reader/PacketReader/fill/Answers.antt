use Rattle.std.proofs.Common.{sym}
use Rattle.space_packets.proofs.Intakes.{taken_more, read_failed}
use Rattle.space_packets.proofs.packet_reader.PacketReader.fill.Goals as goal

pub loop-self-preserved : goal.loop-self-preserved
loop-self-preserved g c = taken_more c.loop-self.invariant (sym c.loop-self-test.ensures.value) c.loop-self-test.ensures.going.0
    c.loop-self-test.ensures.going.1 c.in-Ok.ensures

pub returns-in_default : goal.returns-in_default
returns-in_default g c = λ apid.
    read_failed apid c.loop-self.invariant (sym c.loop-self-test.ensures.value) c.loop-self-test.ensures.going.1 c.in_default.ensures.0 c.in_default.ensures.1
