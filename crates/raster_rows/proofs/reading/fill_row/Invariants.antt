use Rattle.std.proofs.Common.{◌+◌, ◌-◌, ◌*◌}
use Rattle.raster_rows.specs.Pixels.{pixel_size}
use Rattle.raster_rows.proofs.RowRuns.{RowSoFar}
use Rattle.raster_rows.proofs.reading.fill_row.Given as goal

abbrev pub invariant-loop-column : goal.invariant-loop-column
invariant-loop-column g l =
    RowSoFar l.row.form.depth l.row.form.signed l.row.width (g.X.Port.outside l.initial.port) (g.X.Port.outside l.port) l.initial.into l.into
    l.buffer l.column l.held

abbrev pub decreases-loop-column : goal.decreases-loop-column
decreases-loop-column g l = l.row.width * pixel_size l.row.form.depth - (l.column * pixel_size l.row.form.depth + l.held)
