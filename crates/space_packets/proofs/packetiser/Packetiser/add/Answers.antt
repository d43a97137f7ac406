use Rattle.std.proofs.Common.{◌≡◌, ◌+◌, ◌∷◌, [], ◌∙◌, length, ap, refl, arith, length-append, length-drop}
use Rattle.space_packets.specs.Going.{same_progress}
use Rattle.space_packets.proofs.Buffers.{more_wait}
use Rattle.space_packets.proofs.Sound.{sound_more}
use Rattle.space_packets.proofs.packetiser.Packetiser.add.Goals as goal

pub push_reserved-requires : goal.push_reserved-requires
push_reserved-requires c =
    let room = rw (← c.self.view_is) at c.requires.room in
    omega (arith, room, length-drop 30 c.self.inside.buffer.items, c.self.invariant.room)

pub invariant_of-self : goal.invariant_of-self
invariant_of-self c =
    let items = c.self.inside.buffer.items in
    let waiting = length-drop 30 items in
    let room = rw (← c.self.view_is) at c.requires.room in
    let fits = rw (← c.self.view_is, waiting) at c.requires.fits in
    let long : length c.push_reserved.new.self.items ≡ length items + 1 =
    ap length c.push_reserved.ensures.items ∙ length-append items (c.args.octet ∷ []) in
    sound_more c.self.inside c.push_reserved.new.self 1 c.self.invariant (omega arith) (omega (arith, room, waiting)) (omega (arith, fits)) long
    (omega (arith, c.push_reserved.ensures.capacity))

pub returns : goal.returns
returns c = rw (← c.self.view_is) (same_progress refl refl refl refl refl (more_wait c.self.inside.buffer.items c.push_reserved.new.self.items
    (c.args.octet ∷ []) c.self.invariant.header c.push_reserved.ensures.items))
