use Rattle.std.proofs.Common.{◌*◌, ◌<◌, ◌∙◌, length, ap, subst, arith, if◌then◌else◌}
use Rattle.plane_defs.specs.Restored.{restored}
use Rattle.plane_reader.proofs.RestoredBlocks.{blocks_restored}
use Rattle.plane_reader.proofs.planes.restore_read.Goals as goal

pub restore_masks-requires-clause-reached : goal.restore_masks-requires-clause-reached
restore_masks-requires-clause-reached c = rw (c.plan_of.ensures.plane, c.plan_of.ensures.q) c.requires.reached

pub returns-then-sent-clause-numbers : goal.returns-then-sent-clause-numbers
returns-then-sent-clause-numbers c = λ g lows.
    let s = c.args.sent.now in
    let each = rw (c.plan_of.ensures.weights, c.plan_of.ensures.plane, c.plan_of.ensures.q) at c.restore_masks.ensures.restored in
    ap (λ b. if b then restored s.weights.shifts g else g.numbers) c.if-sent.true ∙
    blocks_restored c.requires.whole c.restore_masks.ensures.size each g lows

pub returns-else-sent-clause-numbers : goal.returns-else-sent-clause-numbers
returns-else-sent-clause-numbers c = λ g lows.
    ap (λ b. if b then restored c.args.sent.now.weights.shifts g else g.numbers) c.if-sent.false ∙ lows.numbers

pub returns-then-sent-clause-below : goal.returns-then-sent-clause-below
returns-then-sent-clause-below c = λ planes over below r slot lt le few.
    let each = rw (c.plan_of.ensures.weights, c.plan_of.ensures.plane, c.plan_of.ensures.q) at c.restore_masks.ensures.restored in
    let there : 64 * r < length c.args.cells.now = subst (λ n. 64 * r < n) c.restore_masks.ensures.size lt in
    (each r there).slots slot (omega (arith, over, le)) (omega (arith, few)) (λ e. omega (arith, e, few)) ∙ below r slot there le few
