use Rattle.raster_rows.specs.Pieces.{PixelsPut}
use Rattle.raster_rows.proofs.reading.put_pixels.Given as goal

abbrev pub invariant-loop-place : goal.invariant-loop-place
invariant-loop-place l = PixelsPut l.form.depth l.form.signed l.octets l.column l.place l.initial.into l.into
