use Rattle.strip_coder.proofs.EncodeRuns.{end_breaks_off, run_ended, run_done, run_long, run_unread}
use Rattle.strip_coder.proofs.rows.encode_rows.Goals as goal

pub returns-in_default-clause-encodes : goal.returns-in_default-clause-encodes
returns-in_default-clause-encodes g c =
    end_breaks_off c.args.setting.now c.requires.in_range (g.X.Port.outside c.args.port.now) (g.X.Port.outside c.take_rows.new.port) c.take_rows.new.work
    c.in_ok-take_rows.ensures.rows
    (g.X.Port.outside c.image_end.new.port) c.image_end.new.work c.in_default.ensures

pub returns-then-setting-eq0-clause-encodes : goal.returns-then-setting-eq0-clause-encodes
returns-then-setting-eq0-clause-encodes g c =
    run_ended c.args.setting.now c.requires.in_range (g.X.Port.outside c.args.port.now) (g.X.Port.outside c.take_rows.new.port) c.take_rows.new.work
    c.in_ok-take_rows.ensures.rows
    (g.X.Port.outside c.image_end.new.port) c.image_end.new.work c.in-Ok.done c.in-Ok.ensures c.if-setting-eq0.true

pub returns-in-Ok-true-clause-encodes : goal.returns-in-Ok-true-clause-encodes
returns-in-Ok-true-clause-encodes g c =
    run_done c.args.setting.now c.requires.in_range (g.X.Port.outside c.args.port.now) (g.X.Port.outside c.take_rows.new.port) c.take_rows.new.work
    c.in_ok-take_rows.ensures.rows
    (g.X.Port.outside c.image_end.new.port) c.image_end.new.work c.in-Ok.done c.in-Ok.ensures c.if-setting-eq0.false
    (rw c.in-Ok-true.field-0-test at c.in-Ok-true.ensures)

pub returns-in-Ok-false-clause-encodes : goal.returns-in-Ok-false-clause-encodes
returns-in-Ok-false-clause-encodes g c =
    run_long c.args.setting.now c.requires.in_range (g.X.Port.outside c.args.port.now) (g.X.Port.outside c.take_rows.new.port) c.take_rows.new.work
    c.in_ok-take_rows.ensures.rows
    (g.X.Port.outside c.image_end.new.port) c.image_end.new.work c.in-Ok.done c.in-Ok.ensures c.if-setting-eq0.false
    (rw c.in-Ok-false.field-0-test at c.in-Ok-false.ensures)

pub returns-in-Err-clause-encodes : goal.returns-in-Err-clause-encodes
returns-in-Err-clause-encodes g c =
    run_unread c.args.setting.now c.requires.in_range (g.X.Port.outside c.args.port.now) (g.X.Port.outside c.take_rows.new.port) c.take_rows.new.work
    c.in_ok-take_rows.ensures.rows
    (g.X.Port.outside c.image_end.new.port) c.image_end.new.work c.in-Ok.done c.in-Ok.ensures c.if-setting-eq0.false c.in-Err.ensures
