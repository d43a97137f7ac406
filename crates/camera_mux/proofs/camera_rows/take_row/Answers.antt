use Rattle.std.proofs.Common.{refl, ◌∙◌}
use Rattle.strip_coder.proofs.RowArrives.{row_holds, row_values}
use Rattle.camera_mux.proofs.CameraRows.{takes_row, cuts_row}
use Rattle.camera_mux.proofs.camera_rows.take_row.Goals as goal

pub row_in-requires-clause-values : goal.row_in-requires-clause-values
row_in-requires-clause-values g c =
    let s = c.args.setting.now in
    let read = c.in_default.ensures in
    row_values s read.took _ read.answer.1 (row_holds s read.took c.args.work.now.row c.deref_mut.result.now c.read_row.new.into
    (c.read_row.auto.into ∙ c.deref_mut.ensures.len) read.answer.2)

pub returns-in_default-row_in-clause-row : goal.returns-in_default-row_in-clause-row
returns-in_default-row_in-clause-row g c =
    let s = c.args.setting.now in
    let w = c.args.work.now in
    let read = c.in_default.ensures in
    cuts_row s w.at.rows (g.X.Port.outside c.args.port.now) (g.X.Port.outside c.read_row.new.port) (g.X.Port.outside c.row_in.new.port) w _
    c.deref_mut.result.now c.read_row.new.into _ read
    (record { row = refl; strip = refl; blocks = refl; packets = refl; writer = refl; room = refl; at = refl })
    (row_holds s read.took w.row c.deref_mut.result.now c.read_row.new.into (c.read_row.auto.into ∙ c.deref_mut.ensures.len) read.answer.2)
    c.row_in.new.work c.requires.in_range c.in_default-row_in.ensures

pub returns-clause-row : goal.returns-clause-row
returns-clause-row g c =
    let s = c.args.setting.now in
    let w = c.args.work.now in
    let read = c.in_default.ensures in
    takes_row s w.at.rows (g.X.Port.outside c.args.port.now) (g.X.Port.outside c.read_row.new.port) (g.X.Port.outside c.row_in.new.port) w _
    c.deref_mut.result.now c.read_row.new.into _ read
    (record { row = refl; strip = refl; blocks = refl; packets = refl; writer = refl; room = refl; at = refl })
    (row_holds s read.took w.row c.deref_mut.result.now c.read_row.new.into (c.read_row.auto.into ∙ c.deref_mut.ensures.len) read.answer.2)
    c.row_in.new.work c.in-Ok.ensures
