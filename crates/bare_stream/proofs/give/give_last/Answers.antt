use Rattle.std.proofs.Common.{refl, arith}
use Rattle.picture_rows.specs.Pictures.{picture_state}
use Rattle.bare_stream.proofs.LastGiven.{last_range, last_fewer, last_more, last_long, last_index, last_room, last_weights, has_ended, last_broken}
use Rattle.bare_stream.proofs.give.give_last.Goals as goal

pub end_at-requires-clause-range : goal.end_at-requires-clause-range
end_at-requires-clause-range g c = rw c.height_with-height.ensures (last_range c.args.walk.now c.args.read.now c.requires.sound c.requires.next c.requires.last)

pub end_at-requires-clause-fewer : goal.end_at-requires-clause-fewer
end_at-requires-clause-fewer g c = rw c.height_with-height.ensures (last_fewer c.args.walk.now c.args.read.now c.requires.sound c.requires.next c.requires.last)

pub end_at-requires-clause-more : goal.end_at-requires-clause-more
end_at-requires-clause-more g c = rw c.height_with-height.ensures (last_more c.args.walk.now c.args.read.now c.requires.sound c.requires.next c.requires.last)

pub put_blocks-requires-clause-room : goal.put_blocks-requires-clause-room
put_blocks-requires-clause-room g c = last_room c.args.walk.now c.args.read.now c.requires.sound c.requires.next c.requires.last
    (picture_state c.end_at.new.self) (rw c.height_with-height.ensures at c.end_at.ensures)

pub put_blocks-requires-clause-whole : goal.put_blocks-requires-clause-whole
put_blocks-requires-clause-whole g c = rw c.deref.ensures.value (last_long c.args.walk.now c.args.read.now c.requires.sound c.requires.next c.requires.last)

pub put_blocks-requires-clause-parts : goal.put_blocks-requires-clause-parts
put_blocks-requires-clause-parts g c =
    rw c.deref.ensures.value
    (last_weights c.args.walk.now c.args.read.now c.requires.sound c.requires.next c.requires.last (picture_state c.end_at.new.self)
    (rw c.height_with-height.ensures at c.end_at.ensures) c.args.walk.now.room.blocks.items c.requires.parts)

pub returns-in_default-clause-run : goal.returns-in_default-clause-run
returns-in_default-clause-run g c = λ wish start r prefix text before at head is.
    last_broken c.args.walk.now c.args.read.now c.requires.sound c.requires.next c.requires.last (picture_state c.end_at.new.self)
    (rw c.height_with-height.ensures at c.end_at.ensures)
    g.X.Port.outside wish start r prefix text before c.args.input.now
    (record c.args.input.now { port = record c.args.input.now.port { now = c.put_blocks.new.port } }) at head is refl refl refl
    (rw c.deref.ensures.value at c.in_default.ensures)

pub overflow_add-walk : goal.overflow_add-walk
overflow_add-walk g c = let few = last_index c.args.walk.now c.args.read.now c.requires.sound c.requires.next c.requires.last c.requires.fits in omega
    (arith, few)

pub returns-clause-run : goal.returns-clause-run
returns-clause-run g c = λ wish start r prefix text before at head is.
    has_ended c.args.walk.now c.args.read.now c.requires.sound c.requires.next c.requires.last (picture_state c.end_at.new.self)
    (rw c.height_with-height.ensures at c.end_at.ensures)
    g.X.Port.outside wish start r prefix text before c.args.input.now _ at head is refl refl refl _ (rw c.deref.ensures.value at c.in-Ok.ensures) refl refl
