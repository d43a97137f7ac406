use Rattle.std.specs.Bool.{OnTrue}
use Rattle.raster_rows.specs.RowReads.{FirstInRange}
use Rattle.raster_rows.proofs.reading.are_in_range.Given as goal

abbrev pub invariant-loop-place : goal.invariant-loop-place
invariant-loop-place l = OnTrue l.all (FirstInRange l.form.depth l.form.signed l.octets l.place)
