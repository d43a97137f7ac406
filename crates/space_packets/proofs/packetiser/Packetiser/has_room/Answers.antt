use Rattle.std.proofs.Common.{◌+◌, arith, length-drop}
use Rattle.packet_defs.specs.Packets.{part_size}
use Rattle.space_packets.proofs.Buffers.{room_least, on_less, on_not_less}
use Rattle.space_packets.proofs.packetiser.Packetiser.has_room.Goals as goal

pub returns-clause-room : goal.returns-clause-room
returns-clause-room c =
    let waiting = length-drop 30 c.self.inside.buffer.items in
    let counted = c.self.inside.buffer.ok.0 in
    rw (← c.self.view_is) (on_less c.len.result (6 + c.self.inside.packet)
    (λ less. omega (arith, less, waiting, counted, c.len.ensures, c.self.invariant.least)))

pub returns-clause-full : goal.returns-clause-full
returns-clause-full c =
    let waiting = length-drop 30 c.self.inside.buffer.items in
    let counted = c.self.inside.buffer.ok.0 in
    let most = room_least c.self.inside.stage (part_size c.self.inside.packet) in
    rw (← c.self.view_is) (on_not_less c.len.result (6 + c.self.inside.packet)
    (λ more. omega (arith, more, waiting, counted, most, c.len.ensures, c.self.invariant.pending, c.self.invariant.header, c.self.invariant.least)))

pub returns-clause-is_open : goal.returns-clause-is_open
returns-clause-is_open c =
    let waiting = length-drop 30 c.self.inside.buffer.items in
    let most = room_least c.self.inside.stage (part_size c.self.inside.packet) in
    rw (← c.self.view_is) (λ t begun. record {
      stage = begun;
      packet = c.self.invariant.least;
      pending =
          omega (arith, waiting, most, c.self.invariant.pending);
    })
