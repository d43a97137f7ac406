use Rattle.std.proofs.Common.{refl, arith}
use Rattle.bare_stream.proofs.NextGiven.{next_room, next_index, next_sound, next_long, weights_are, force_next, next_at, next_broken, more}
use Rattle.bare_stream.proofs.give.give_next.Goals as goal

pub put_blocks-requires-clause-room : goal.put_blocks-requires-clause-room
put_blocks-requires-clause-room g c = next_room c.args.walk.now c.args.read.now c.requires.sound c.requires.next c.requires.going

pub put_blocks-requires-clause-whole : goal.put_blocks-requires-clause-whole
put_blocks-requires-clause-whole g c = rw c.deref.ensures.value (next_long c.args.walk.now c.args.read.now c.requires.sound c.requires.next c.requires.going)

pub put_blocks-requires-clause-parts : goal.put_blocks-requires-clause-parts
put_blocks-requires-clause-parts g c = rw c.deref.ensures.value (weights_are c.args.walk.now c.args.read.now c.requires.sound c.requires.next
    c.args.walk.now.room.blocks.items c.requires.parts)

pub returns-in_default-clause-run : goal.returns-in_default-clause-run
returns-in_default-clause-run g c = λ wish start r prefix text before at head is.
    next_broken c.args.walk.now c.args.read.now c.requires.sound c.requires.next g.X.Port.outside wish start r prefix text before c.args.input.now
    (record c.args.input.now { port = record c.args.input.now.port { now = c.put_blocks.new.port } }) at head is c.requires.going refl refl refl
    (rw c.deref.ensures.value at c.in_default.ensures)

pub overflow_add-walk : goal.overflow_add-walk
overflow_add-walk g c = let few = next_index c.args.walk.now c.args.read.now c.requires.sound c.requires.next c.requires.going in omega (arith, few)

pub returns-clause-walk : goal.returns-clause-walk
returns-clause-walk g c = (
  next_sound c.args.walk.now c.args.read.now c.requires.sound c.requires.next c.requires.going c.args.walk.now.room.blocks.items _
      refl refl refl (rw c.deref.ensures.value at c.in-Ok.ensures),
  refl,
  refl,
)

pub returns-clause-run : goal.returns-clause-run
returns-clause-run g c = λ wish start r prefix text before at head is. (
  more c.args.walk.now c.args.read.now c.requires.sound c.requires.next g.X.Port.outside wish start r prefix text before c.args.input.now c.args.input.now at
      head is c.requires.going refl refl refl,
  next_at c.args.walk.now c.args.read.now c.requires.sound c.requires.next g.X.Port.outside wish start r prefix text before c.args.input.now _ at head is
      c.requires.going refl refl refl _ (rw c.deref.ensures.value at c.in-Ok.ensures) refl refl refl refl,
  force_next c.args.walk.now c.args.read.now c.requires.sound c.requires.next g.X.Port.outside wish start r prefix text before c.args.input.now
      c.args.input.now at head is c.requires.going refl refl refl,
)
