use Rattle.strip122_c.proofs.WholeDecoded.{fitting_raster, kept_raster, refused_raster, small_raster}
use Rattle.strip122_c.proofs.decode.raster_kept.Goals as goal

pub returns-in-Err-clause-fits : goal.returns-in-Err-clause-fits
returns-in-Err-clause-fits c = refused_raster c.args.product c.args.wish.now c.args.packets.now c.args.room c.in-Err.refusal c.in-Err.ensures

pub returns-then-length-room-clause-fits : goal.returns-then-length-room-clause-fits
returns-then-length-room-clause-fits c =
    small_raster c.args.product c.args.wish.now c.args.packets.now c.args.room c.rows_of.result c.product_length-length.result c.in-Ok.measured
    c.received_is_known.ensures c.requires.raster c.in-Ok.ensures
    c.rows_of.ensures c.product_length-length.ensures c.if-length-room.true

pub returns-clause-fits : goal.returns-clause-fits
returns-clause-fits c = fitting_raster c.args.product c.args.wish.now c.args.packets.now c.args.room c.product_length-length.result c.in-Ok.measured
    c.in-Ok.ensures
    c.product_length-length.ensures c.if-length-room.false

pub returns-clause-kept : goal.returns-clause-kept
returns-clause-kept c = kept_raster c.args.product c.args.wish.now c.args.packets.now c.product_length-length.result c.in-Ok.measured c.requires.raster
    c.in-Ok.ensures c.product_length-length.ensures
