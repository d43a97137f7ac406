use Rattle.std.proofs.Common.{◌∙◌, ap, if◌then◌else◌}
use Rattle.plane_defs.specs.Restored.{restored}
use Rattle.plane_reader.proofs.HalvedBlocks.{halves_wait, blocks_halved}
use Rattle.plane_reader.proofs.planes.restore_unread.Goals as goal

pub restore_dcs-requires-clause-room : goal.restore_dcs-requires-clause-room
restore_dcs-requires-clause-room c =
    rw c.min.ensures (halves_wait c.args.sent.now c.args.blocks.now c.requires.whole c.requires.dcs)

pub returns-then-sent-clause-numbers : goal.returns-then-sent-clause-numbers
returns-then-sent-clause-numbers c = λ g is await.
    let s = c.args.sent.now in
    let dcs = rw (c.plan_of.ensures.weights, c.min.ensures) at c.restore_dcs.ensures.dcs in
    ap (λ b. if b then restored s.weights.shifts g else g.numbers) c.if-sent.true ∙
    blocks_halved s c.args.blocks.now c.restore_dcs.new.blocks c.requires.whole c.restore_dcs.ensures.size dcs c.restore_dcs.ensures.others g is await

pub returns-else-sent-clause-numbers : goal.returns-else-sent-clause-numbers
returns-else-sent-clause-numbers c = λ g is await.
    ap (λ b. if b then restored c.args.sent.now.weights.shifts g else g.numbers) c.if-sent.false ∙ is
