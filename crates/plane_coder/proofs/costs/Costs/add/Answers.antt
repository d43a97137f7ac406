use Rattle.std.proofs.Common.{refl, arith}
use Rattle.plane_coder.proofs.Costing.{adds_word, word_room}
use Rattle.plane_coder.proofs.costs.Costs.add.Goals as goal

pub overflow_add-self : goal.overflow_add-self
overflow_add-self c =
    let t = c.args.tables.now in
    let room = word_room t.book t.rows t.short_costs t.long_costs c.args.word t.coded t.costed c.requires.packed in
    omega (arith, room.0, c.requires.room.short)

pub overflow_add-self-2 : goal.overflow_add-self-2
overflow_add-self-2 c =
    let t = c.args.tables.now in
    let room = word_room t.book t.rows t.short_costs t.long_costs c.args.word t.coded t.costed c.requires.packed in
    omega (arith, room.1, c.requires.room.long)

pub returns : goal.returns
returns c =
    let t = c.args.tables.now in
    adds_word t.book t.rows t.short_costs t.long_costs _ _ c.args.word t.coded t.costed c.requires.packed refl refl
