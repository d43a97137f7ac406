use Rattle.std.proofs.Common.{rules, to_z, of_z, w32}
use Rattle.raster_rows.proofs.PieceRuns.{one_put}
use Rattle.raster_rows.proofs.reading.take_pixels.Goals as goal

pub loop-place-preserved : goal.loop-place-preserved
loop-place-preserved c =
    one_put c.args.form.depth c.args.form.signed c.args.octets.now c.args.column c.loop-place.place (to_z w32 (of_z w32 c.pixel_at-value.result)) _
    c.loop-place.into
    c.loop-place.invariant (search rules) (search rules) (search rules)
