use Rattle.std.proofs.Common.{arith, length-drop}
use Rattle.packet_defs.specs.Packets.{part_size}
use Rattle.space_packets.proofs.Buffers.{room_least}
use Rattle.space_packets.proofs.packetiser.Packetiser.text.Goals as goal

pub returns-clause-is_open : goal.returns-clause-is_open
returns-clause-is_open c =
    rw (← c.self.view_is) record {
      stage = c.in-Begun.is;
      packet = c.self.invariant.least;
      pending = omega (
        arith,
        length-drop 30 c.self.inside.buffer.items,
        c.self.invariant.pending,
        room_least c.self.inside.stage
            (part_size c.self.inside.packet),
      );
    }
