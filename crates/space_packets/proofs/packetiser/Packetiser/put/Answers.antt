use Rattle.packet_defs.specs.Packets.{part_size}
use Rattle.std.proofs.Common.{length, ◌∷◌, [], arith}
use Rattle.std.proofs.lemmas.Grind.{common_steps}
use Rattle.space_packets.proofs.Buffers.{given_text}
use Rattle.space_packets.proofs.MoreOctets.{goes_on_in, goes_on_past, breaks_off_at}
use Rattle.space_packets.proofs.packetiser.Packetiser.put.Goals as goal

pub returns-then-has_room : goal.returns-then-has_room
returns-then-has_room g c =
    let v = c.args.self.now in
    let begun = given_text v.stage (part_size v.packet) (length v.pending) c.requires in
    let going = c.has_room.ensures.is_open begun.0 begun.1 in
    record {
      text = begun.0;
      was_open = going;
      ends = goes_on_in going (c.args.octet ∷ []) (omega (arith, c.if-has_room.ensures.room)) c.add.ensures;
    }

pub returns-in_default : goal.returns-in_default
returns-in_default g c = grind (arith, common_steps, breaks_off_at)

pub returns : goal.returns
returns g c =
    let going = c.text-text.ensures.is_open in
    record {
      text = c.text-text.result;
      was_open = going;
      ends = goes_on_past going c.args.octet c.if-has_room.ensures.full c.in-Ok.ensures c.add-2.ensures;
    }
