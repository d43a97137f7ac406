use Rattle.std.proofs.lemmas.Bool.Decides.{nat_tests}
use Rattle.std.proofs.Common.{arith, ◌≡◌, sym, ◌∙◌, true}
use Rattle.packet_defs.specs.Streams.{begins_packet}
use Rattle.packet_defs.proofs.Prefixes.{begins_so, first_is_packet}
use Rattle.packet_assembly.proofs.PacketSteps.{over_so, long_so}
use Rattle.camera_mux.proofs.picking.pick_next.Goals as goal

pub returns-in_default-answer : goal.returns-in_default-answer
returns-in_default-answer g c = grind (arith, nat_tests, long_so)

pub returns-then-not-has_packet : goal.returns-then-not-has_packet
returns-then-not-has_packet g c = grind (arith, nat_tests, over_so)

pub is_picked-picked-requires : goal.is_picked-picked-requires
is_picked-picked-requires g c =
    let whole : begins_packet c.fill.new.self.pending ≡ true = sym c.has_packet.ensures ∙ c.if-not-has_packet.false in
    rw c.octets.ensures (first_is_packet (begins_so c.fill.new.self.pending whole))
