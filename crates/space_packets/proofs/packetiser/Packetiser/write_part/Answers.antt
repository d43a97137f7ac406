use Rattle.std.proofs.Common.{◌≡◌, ◌+◌, ◌∙◌, refl, ap, arith, length, drop, length-drop, length-take}
use Rattle.space_packets.specs.Parts.{packet_of}
use Rattle.space_packets.specs.Going.{same_progress}
use Rattle.space_packets.proofs.Buffers.{header_alone}
use Rattle.space_packets.proofs.Sound.{sound_past}
use Rattle.space_packets.proofs.packetiser.Packetiser.write_part.Goals as goal

pub returns-in_default : goal.returns-in_default
returns-in_default g c =
    let failed = c.in_default.ensures.out in
    rw (← c.self.view_is) record {
      some = failed.1.0;
      within = failed.1.1;
      out = failed.1.2;
      rose = failed.0;
      valid = same_progress refl refl refl refl refl (header_alone c.send-sent.new.buffer.items c.truncate.new.self.items c.truncate.ensures.items);
    }

pub invariant_of-self-2 : goal.invariant_of-self-2
invariant_of-self-2 g c =
    let items = c.self.inside.buffer.items in
    let begun = rw (← c.self.view_is) at c.requires.begun in
    let full = rw (← c.self.view_is, length-drop 30 items) at c.requires.full in
    let cut : length c.truncate.new.self.items ≡ 30 =
    omega (arith, ap length c.truncate.ensures.items, length-take 30 c.send-sent.new.buffer.items, c.in-Ok.ensures.same_length, c.self.invariant.header) in
    let octets : c.len-octets.result ≡ length items = omega (arith, c.len-octets.ensures, c.send-sent.new.buffer.ok.0, c.in-Ok.ensures.same_length) in
    sound_past c.self.inside c.args.text c.args.last c.after_part-self-inside.result c.len-octets.result c.truncate.new.self c.self.invariant begun full
    c.after_part-self-inside.ensures octets cut (c.truncate.ensures.capacity ∙ c.in-Ok.ensures.capacity)

pub returns : goal.returns
returns g c =
    let octets : c.len-octets.result ≡ length (packet_of c.args.text c.self.inside.packets c.args.last (drop 30 c.self.inside.buffer.items)) =
    omega (arith, c.len-octets.ensures, c.send-sent.new.buffer.ok.0, ap length c.in-Ok.ensures.packet) in
    rw (← c.self.view_is) record {
      out = c.in-Ok.ensures.out;
      valid = same_progress refl c.after_part-self-inside.ensures refl refl (ap (λ n. c.self.inside.octets + n) octets)
          (header_alone c.send-sent.new.buffer.items c.truncate.new.self.items c.truncate.ensures.items);
    }
