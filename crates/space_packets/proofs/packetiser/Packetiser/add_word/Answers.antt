use Rattle.std.proofs.Common.{◌≡◌, ◌+◌, ◌++◌, ◌∙◌, length, ap, refl, arith, length-append, length-drop}
use Rattle.std.specs.Int.{w64, to_be_bytes}
use Rattle.bit_pipe.proofs.WordOctets.{length-octets}
use Rattle.space_packets.specs.Going.{same_progress}
use Rattle.space_packets.proofs.Buffers.{more_wait, extended}
use Rattle.space_packets.proofs.Sound.{sound_more}
use Rattle.space_packets.proofs.packetiser.Packetiser.add_word.Goals as goal

pub unwrap-requires : goal.unwrap-requires
unwrap-requires c =
    let room = rw (← c.self.view_is) at c.requires.room in
    c.extend_from_slice.ensures.succeeds (omega (
      arith,
      room,
      c.self.inside.buffer.ok.0,
      length-drop 30 c.self.inside.buffer.items,
      ap length c.to_be_bytes.ensures,
      length-octets 8 c.args.word,
      c.self.invariant.header,
      c.self.invariant.room,
    ))

pub invariant_of-self : goal.invariant_of-self
invariant_of-self c =
    let items = c.self.inside.buffer.items in
    let waiting = length-drop 30 items in
    let room = rw (← c.self.view_is) at c.requires.room in
    let fits = rw (← c.self.view_is, waiting) at c.requires.fits in
    let octets = to_be_bytes w64 c.args.word in
    let now : c.extend_from_slice.new.self.items ≡ items ++ octets =
    extended _ _ _ _ _ _ c.unwrap.ensures c.extend_from_slice.ensures.items c.to_be_bytes.ensures in
    let long : length c.extend_from_slice.new.self.items ≡ length items + 8 =
    ap length now ∙ length-append items octets ∙ ap (λ n. length items + n) (length-octets 8 c.args.word) in
    sound_more c.self.inside c.extend_from_slice.new.self 8 c.self.invariant (omega arith) (omega (arith, room, waiting)) (omega (arith, fits)) long
    c.extend_from_slice.ensures.capacity

pub returns : goal.returns
returns c =
    let items = c.self.inside.buffer.items in
    let octets = to_be_bytes w64 c.args.word in
    let now : c.extend_from_slice.new.self.items ≡ items ++ octets =
    extended _ _ _ _ _ _ c.unwrap.ensures c.extend_from_slice.ensures.items c.to_be_bytes.ensures in
    rw (← c.self.view_is) (same_progress refl refl refl refl refl (more_wait items c.extend_from_slice.new.self.items octets c.self.invariant.header now))
