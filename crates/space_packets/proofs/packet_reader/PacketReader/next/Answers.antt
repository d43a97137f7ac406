use Rattle.space_packets.proofs.Intakes.{taken_all}
use Rattle.space_packets.proofs.packet_reader.PacketReader.next.Goals as goal

pub returns : goal.returns
returns g c = taken_all c.args.apid c.answer.result c.in-Ok.ensures.0 c.answer.ensures.answer c.answer.ensures.valid
