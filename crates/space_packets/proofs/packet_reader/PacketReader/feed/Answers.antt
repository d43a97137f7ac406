use Rattle.std.proofs.Common.{◌≡◌, ◌<◌, ◌≤◌, ◌+◌, ◌-◌, length, drop, take, rules, slice_range, true, ◌==◌, arith}
use Rattle.std.specs.Vec.{with_items}
use Rattle.std.proofs.lemmas.List.{with_items_is}
use Rattle.std.proofs.lemmas.Grind.{common_steps}
use borrow.Rule.Slice.PartMut.{put_mid}
use Rattle.space_packets.specs.Held.{intake}
use Rattle.space_packets.proofs.Intakes.{waits_moved, length-waits, fed_piece, fed_nothing, or_true, or_none}
use Rattle.space_packets.proofs.packet_reader.PacketReader.feed.Goals as goal

pub returns-in_default : goal.returns-in_default
returns-in_default g c = grind (arith, common_steps, slice_range, length-waits, with_items_is, waits_moved, fed_nothing)

pub returns-then-count-eq0 : goal.returns-then-count-eq0
returns-then-count-eq0 g c =
    let s = c.make_room-self-inside.result in
    let held = c.self.inside.end - c.self.inside.start in
    let xs = c.deref_mut-2.result.now in
    let most = s + held + c.min-most.result - (s + held) in
    let moved = with_items c.self.inside.buffer c.make_room-self-inside.new.buffer in
    let filled = put_mid (s + held) most xs c.read.new.into in
    let short : length (slice_range c.self.inside.buffer.items c.self.inside.start c.self.inside.end) < 65542 = rw (← c.self.view_is) at c.requires.short in
    let below : c.self.inside.taken < c.self.inside.cap = rw (← c.self.view_is) at c.requires.below in
    let size = length-waits c.self.inside.buffer.items c.self.inside.start c.self.inside.end c.self.invariant.order c.self.invariant.within in
    let within : s + held ≤ length xs = search rules in
    let read = c.read.auto.into in
    let some : 0 < length c.read.new.into = search rules in
    let few : length c.read.new.into ≤ 4096 = search rules in
    let same : length filled ≡ moved.len = search rules in
    let is = with_items_is moved filled same in
    let waits : take held (drop s xs) ≡ slice_range c.self.inside.buffer.items c.self.inside.start c.self.inside.end =
    waits_moved c.self.inside.buffer c.deref_mut.result.now c.make_room-self-inside.new.buffer xs c.self.inside.start s held
    c.deref_mut.ensures.value c.make_room-self-inside.ensures.same c.make_room-self-inside.auto.buffer c.deref_mut-2.ensures.value in
    record {
      piece = c.read.new.into;
      count = c.in-Ok.count;
      some = some;
      few = few;
      read = c.in-Ok.ensures;
      within = search rules;
      valid = rw (← c.self.view_is) (fed_piece (intake c.self.inside) _ xs c.read.new.into s held c.in-Ok.count most true (c.in-Ok.count == 0) is waits
          within c.in-Ok.ensures.within (or_true c.self.inside.ended c.in-Ok.count c.if-count-eq0.true));
    }

pub returns-else-count-eq0 : goal.returns-else-count-eq0
returns-else-count-eq0 g c =
    let s = c.make_room-self-inside.result in
    let held = c.self.inside.end - c.self.inside.start in
    let xs = c.deref_mut-2.result.now in
    let most = s + held + c.min-most.result - (s + held) in
    let moved = with_items c.self.inside.buffer c.make_room-self-inside.new.buffer in
    let filled = put_mid (s + held) most xs c.read.new.into in
    let short : length (slice_range c.self.inside.buffer.items c.self.inside.start c.self.inside.end) < 65542 = rw (← c.self.view_is) at c.requires.short in
    let below : c.self.inside.taken < c.self.inside.cap = rw (← c.self.view_is) at c.requires.below in
    let size = length-waits c.self.inside.buffer.items c.self.inside.start c.self.inside.end c.self.invariant.order c.self.invariant.within in
    let within : s + held ≤ length xs = search rules in
    let read = c.read.auto.into in
    let some : 0 < length c.read.new.into = search rules in
    let few : length c.read.new.into ≤ 4096 = search rules in
    let same : length filled ≡ moved.len = search rules in
    let is = with_items_is moved filled same in
    let waits : take held (drop s xs) ≡ slice_range c.self.inside.buffer.items c.self.inside.start c.self.inside.end =
    waits_moved c.self.inside.buffer c.deref_mut.result.now c.make_room-self-inside.new.buffer xs c.self.inside.start s held
    c.deref_mut.ensures.value c.make_room-self-inside.ensures.same c.make_room-self-inside.auto.buffer c.deref_mut-2.ensures.value in
    record {
      piece = c.read.new.into;
      count = c.in-Ok.count;
      some = some;
      few = few;
      read = c.in-Ok.ensures;
      within = search rules;
      valid = rw (← c.self.view_is) (fed_piece (intake c.self.inside) _ xs c.read.new.into s held c.in-Ok.count most c.self.inside.ended
          (c.in-Ok.count == 0) is waits within c.in-Ok.ensures.within (or_none c.self.inside.ended c.in-Ok.count c.if-count-eq0.false));
    }
