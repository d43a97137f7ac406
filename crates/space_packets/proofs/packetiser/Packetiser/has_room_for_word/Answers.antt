use Rattle.std.proofs.Common.{◌+◌, arith, length-drop}
use Rattle.space_packets.proofs.Buffers.{on_at_most}
use Rattle.space_packets.proofs.packetiser.Packetiser.has_room_for_word.Goals as goal

pub returns : goal.returns
returns c =
    let waiting = length-drop 30 c.self.inside.buffer.items in
    let counted = c.self.inside.buffer.ok.0 in
    rw (← c.self.view_is) (on_at_most (c.len.result + 8) (6 + c.self.inside.packet)
    (λ few. omega (arith, few, waiting, counted, c.len.ensures, c.self.invariant.least, c.self.invariant.header)))
