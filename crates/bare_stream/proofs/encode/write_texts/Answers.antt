use Rattle.std.proofs.Common.{◌≡◌, arith, subst}
use Rattle.std.proofs.lemmas.Result.{err_from_is_err_and}
use Rattle.bare_stream.specs.RowsIn.{HasArrived}
use Rattle.bare_stream.proofs.Arrives.{none_arrived}
use Rattle.bare_stream.proofs.Counts.{is_plan, rows_in}
use Rattle.bare_stream.proofs.Runs.{all_texts, rest_cut}
use Rattle.bare_stream.proofs.encode.write_texts.Goals as goal

pub loop-row-init : goal.loop-row-init
loop-row-init g c = none_arrived c.args.setting.now (g.X.Port.outside c.args.port.now) c.args.work.now c.requires.bare c.requires.made c.requires.start

pub take_row-requires-clause-running : goal.take_row-requires-clause-running
take_row-requires-clause-running g c = c.loop-row.invariant.running

pub take_row-requires-clause-rows : goal.take_row-requires-clause-rows
take_row-requires-clause-rows g c = c.loop-row.invariant.rows

pub returns-in_err-take_row-clause-texts : goal.returns-in_err-take_row-clause-texts
returns-in_err-take_row-clause-texts g c =
    let e = err_from_is_err_and c.from_residual.result c.from_residual.ensures.1 in
    rw (e.1, e.2) (c.in_err-take_row.ensures.row (g.X.Port.outside c.args.port.now) c.loop-row.invariant)

pub loop-row-preserved : goal.loop-row-preserved
loop-row-preserved g c = c.in_ok-take_row.ensures.row (g.X.Port.outside c.args.port.now) c.loop-row.invariant

pub write_rest-requires-clause-in_range : goal.write_rest-requires-clause-in_range
write_rest-requires-clause-in_range g c = rw c.new-plan.ensures (is_plan c.args.setting.now c.requires.bare)

pub write_rest-requires-clause-running : goal.write_rest-requires-clause-running
write_rest-requires-clause-running g c = rw c.new-plan.ensures c.loop-row.invariant.running

pub write_rest-requires-clause-rows : goal.write_rest-requires-clause-rows
write_rest-requires-clause-rows g c =
    let rows = c.loop-row.invariant.rows in
    rw c.new-plan.ensures (omega (arith, rows, c.loop-row-test.false, c.loop-row.auto.row-end))

pub write_rest-requires-clause-small : goal.write_rest-requires-clause-small
write_rest-requires-clause-small g c =
    let some = (rows_in c.args.setting.now c.requires.bare).0 in
    rw c.new-plan.ensures (c.loop-row.invariant.small (omega (arith, some, c.loop-row-test.false, c.loop-row.auto.row-end)))

pub returns-in_default-clause-texts : goal.returns-in_default-clause-texts
returns-in_default-clause-texts g c =
    let s = c.args.setting.now in
    let p = g.X.Port.outside c.args.port.now in
    let q = g.X.Port.outside c.loop-row.port in
    let all : c.loop-row.row ≡ s.rows = omega (arith, c.loop-row-test.false, c.loop-row.auto.row-end) in
    let arrived = subst (λ k. HasArrived s k p q c.loop-row.work) all c.loop-row.invariant in
    rest_cut s c.requires.bare p q (g.X.Port.outside c.write_rest.new.port) c.loop-row.work c.write_rest.new.work arrived
    (rw c.new-plan.ensures at c.in_default.ensures)

pub returns-clause-texts : goal.returns-clause-texts
returns-clause-texts g c =
    let s = c.args.setting.now in
    let p = g.X.Port.outside c.args.port.now in
    let q = g.X.Port.outside c.loop-row.port in
    let all : c.loop-row.row ≡ s.rows = omega (arith, c.loop-row-test.false, c.loop-row.auto.row-end) in
    let arrived = subst (λ k. HasArrived s k p q c.loop-row.work) all c.loop-row.invariant in
    all_texts s c.requires.bare p q (g.X.Port.outside c.write_rest.new.port) c.loop-row.work c.write_rest.new.work arrived
    (rw c.new-plan.ensures at c.in-Ok.ensures)
