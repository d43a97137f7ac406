use Rattle.std.proofs.Common.{◌≡◌, refl, ap, ◌∙◌, arith, drop, [], length-drop}
use Rattle.std.proofs.lemmas.List.{drop_all}
use Rattle.packet_defs.specs.Packets.{part_size}
use Rattle.space_packets.specs.Stages.{room_of}
use Rattle.space_packets.specs.Going.{same_progress}
use Rattle.space_packets.proofs.packetiser.Packetiser.begin.Goals as goal

pub returns-clause-begun : goal.returns-clause-begun
returns-clause-begun c =
    let idle = ap (λ v. room_of v.stage (part_size c.self.inside.packet)) c.self.view_is ∙ ap (λ s. room_of s (part_size c.self.inside.packet))
    c.requires.idle in
    let none : drop 30 c.self.inside.buffer.items ≡ [] = drop_all 30 c.self.inside.buffer.items (omega (arith, c.self.invariant.pending, idle)) in
    rw (← c.self.view_is) (same_progress refl refl refl refl refl none)

pub returns-clause-is_open : goal.returns-clause-is_open
returns-clause-is_open c =
    let idle = ap (λ v. room_of v.stage (part_size c.self.inside.packet)) c.self.view_is ∙ ap (λ s. room_of s (part_size c.self.inside.packet))
    c.requires.idle in
    record {
      stage = refl;
      packet = c.self.invariant.least;
      pending = omega (arith, length-drop 30 c.self.inside.buffer.items, c.self.invariant.pending, idle);
    }
