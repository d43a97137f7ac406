use Rattle.std.proofs.Common.{◌≡◌, ◌≤◌, ◌+◌, ◌++◌, ◌∙◌, length, refl, sym, ap, arith, length-append}
use Rattle.std.specs.Int.{w64, to_be_bytes}
use Rattle.packet_defs.specs.Packets.{part_size}
use Rattle.item_defs.proofs.NumberBits.{length-bits_of}
use Rattle.bit_pipe.proofs.WordOctets.{octets_bits, are_octets, length-octets}
use Rattle.space_packets.specs.Progress.{given_octets}
use Rattle.space_packets.proofs.Buffers.{given_more}
use Rattle.space_packets.proofs.MoreOctets.{goes_on_in}
use Rattle.space_packets.proofs.sink.PacketSinkOctetOut.put_word.Goals as goal

pub returns : goal.returns
returns g c =
    let v = c.args.self.now.packets.now in
    let octets = to_be_bytes w64 c.args.word in
    let eight : length octets ≡ 8 = length-octets 8 c.args.word in
    let room : length v.pending + length octets ≤ part_size v.packet = omega (arith, eight, c.if-not-has_room_for_word.ensures) in
    let given = given_more v.stage (part_size v.packet) (length v.pending) 8 (length (v.pending ++ octets)) (omega (arith, c.requires))
    (length-append v.pending octets ∙ omega (arith, eight)) in
    record {
      octets = octets;
      small = are_octets 8 c.args.word;
      spell = sym (octets_bits 8 c.args.word);
      gave = record { packets = refl; port = refl; text = λ t going. goes_on_in going octets room c.add_word.ensures };
      given = omega (arith, ap given_octets c.add_word.ensures, given, length-bits_of 64 c.args.word);
      faults = omega arith;
    }
