use Rattle.std.proofs.Common.{◌≡◌, ◌+◌, ap, sym, subst, arith}
use Rattle.std.proofs.lemmas.Result.{err_from_is_err_and}
use Rattle.std.proofs.lemmas.Grind.{common_steps}
use Rattle.strip_coder.specs.Plans.{tallest}
use Rattle.strip_coder.specs.declared.plan.Plan.{Plan}
use Rattle.strip_coder.specs.RowsIn.{HasArrived}
use Rattle.strip_coder.proofs.RowArrives.{none_arrived}
use Rattle.strip_coder.proofs.TallEnds.{known_all, tall_ended, tall_long, tall_unread}
use Rattle.strip_coder.proofs.rows.take_rows.Goals as goal

pub loop-init : goal.loop-init
loop-init g c = none_arrived c.args.setting.now (g.X.Port.outside c.args.port.now) c.args.work.now c.requires.in_range c.requires.start

pub loop-preserved : goal.loop-preserved
loop-preserved g c =
    let s = c.args.setting.now in
    let p = g.X.Port.outside c.args.port.now in
    let count = c.loop.invariant.valid.taken.rows in
    let arrived = subst (λ k. HasArrived s k p (g.X.Port.outside c.loop.port) c.loop.work) (sym count) c.loop.invariant in
    let more = rw c.if-not-branch.false at (c.in_ok-take_row.ensures.row p arrived) in
    subst (λ k. HasArrived s (k + 1) p (g.X.Port.outside c.take_row.new.port) c.take_row.new.work) count more

pub returns-in_err-take_row-clause-rows : goal.returns-in_err-take_row-clause-rows
returns-in_err-take_row-clause-rows g c =
    let s = c.args.setting.now in
    let p = g.X.Port.outside c.args.port.now in
    let arrived = subst (λ k. HasArrived s k p (g.X.Port.outside c.loop.port) c.loop.work) (sym c.loop.invariant.valid.taken.rows) c.loop.invariant in
    let e = err_from_is_err_and c.from_residual.result c.from_residual.ensures.1 in
    rw (e.1, e.2) (c.in_err-take_row.ensures.row p arrived)

pub returns-then-not-branch-clause-rows : goal.returns-then-not-branch-clause-rows
returns-then-not-branch-clause-rows g c =
    let s = c.args.setting.now in
    let p = g.X.Port.outside c.args.port.now in
    let arrived = subst (λ k. HasArrived s k p (g.X.Port.outside c.loop.port) c.loop.work) (sym c.loop.invariant.valid.taken.rows) c.loop.invariant in
    let ended = rw c.if-not-branch.true at (c.in_ok-take_row.ensures.row p arrived) in
    ended.1

pub returns-then-setting-ne0-clause-rows : goal.returns-then-setting-ne0-clause-rows
returns-then-setting-ne0-clause-rows g c = grind (arith, common_steps, known_all)

pub returns-in-Ok-true-clause-rows : goal.returns-in-Ok-true-clause-rows
returns-in-Ok-true-clause-rows g c =
    let s = c.args.setting.now in
    let all : c.loop.counter ≡ tallest s = (let e = ap (λ (p : Plan). p.rows) c.tallest-end.ensures in omega
    (arith, e, c.loop-test.false, c.loop.auto.counter-end)) in
    tall_ended s c.requires.in_range (g.X.Port.outside c.args.port.now) (g.X.Port.outside c.loop.port) c.loop.work (rw all at c.loop.invariant)
    c.if-setting-ne0.false
    (rw c.in-Ok-true.field-0-test at c.in-Ok-true.ensures)

pub returns-in-Ok-false-clause-rows : goal.returns-in-Ok-false-clause-rows
returns-in-Ok-false-clause-rows g c =
    let s = c.args.setting.now in
    let all : c.loop.counter ≡ tallest s = (let e = ap (λ (p : Plan). p.rows) c.tallest-end.ensures in omega
    (arith, e, c.loop-test.false, c.loop.auto.counter-end)) in
    tall_long s c.requires.in_range (g.X.Port.outside c.args.port.now) (g.X.Port.outside c.loop.port) c.loop.work (rw all at c.loop.invariant)
    c.if-setting-ne0.false
    (rw c.in-Ok-false.field-0-test at c.in-Ok-false.ensures)

pub returns-in-Err-clause-rows : goal.returns-in-Err-clause-rows
returns-in-Err-clause-rows g c =
    let s = c.args.setting.now in
    let all : c.loop.counter ≡ tallest s = (let e = ap (λ (p : Plan). p.rows) c.tallest-end.ensures in omega
    (arith, e, c.loop-test.false, c.loop.auto.counter-end)) in
    tall_unread s c.requires.in_range (g.X.Port.outside c.args.port.now) (g.X.Port.outside c.loop.port) c.loop.work (rw all at c.loop.invariant)
    c.if-setting-ne0.false c.in-Err.ensures
