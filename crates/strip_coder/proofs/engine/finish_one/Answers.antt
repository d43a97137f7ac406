use Rattle.std.proofs.Common.{refl}
use Rattle.strip_coder.specs.Plans.{job_of}
use Rattle.strip_coder.proofs.RowFinishes.{row_finished, has_room, finished_gone, finished_broken}
use Rattle.strip_coder.proofs.engine.finish_one.Goals as goal

pub gather_row-requires-clause-room : goal.gather_row-requires-clause-room
gather_row-requires-clause-room g c =
    let w = c.args.work.now in
    let e = c.finish_row-came.ensures in
    has_room (job_of g.S.SegmentOut.form c.args.plan.now) w c.finish_row-came.new.self c.requires.ending
    (row_finished c.finish_row-came.result w.strip c.finish_row-came.new.self c.if-is_none.ensures e.columns e.rows e.answer e.current e.follows e.shows)

pub returns-in_err-gather_row : goal.returns-in_err-gather_row
returns-in_err-gather_row g c =
    let w = c.args.work.now in
    let e = c.finish_row-came.ensures in
    finished_broken (job_of g.S.SegmentOut.form c.args.plan.now) c.requires.in_range w _ c.requires.ending
    (record { row = refl; blocks = refl; packets = refl; writer = refl; room = refl; at = refl })
    (row_finished c.finish_row-came.result w.strip c.finish_row-came.new.self c.if-is_none.ensures e.columns e.rows e.answer e.current e.follows e.shows)
    (g.X.Port.outside c.args.port.now) (g.X.Port.outside c.gather_row.new.port) c.from_residual.result c.gather_row.new.work c.from_residual.ensures.0
    c.in_err-gather_row.ensures

pub returns : goal.returns
returns g c =
    let w = c.args.work.now in
    let e = c.finish_row-came.ensures in
    finished_gone (job_of g.S.SegmentOut.form c.args.plan.now) c.requires.in_range w _ c.requires.ending
    (record { row = refl; blocks = refl; packets = refl; writer = refl; room = refl; at = refl })
    (row_finished c.finish_row-came.result w.strip c.finish_row-came.new.self c.if-is_none.ensures e.columns e.rows e.answer e.current e.follows e.shows)
    c.gather_row.new.work c.in_ok-gather_row.ensures
