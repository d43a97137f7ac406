use Rattle.std.proofs.Common.{rules}
use Rattle.strip122.proofs.MadeParts.{raster_failed, row_then}
use Rattle.strip122.proofs.make.write_made.Goals as goal

pub returns-in_err-write_made_row : goal.returns-in_err-write_made_row
returns-in_err-write_made_row g c =
    raster_failed c.args.made.now c.loop-row.row c.from_residual.result (search rules) c.loop-row.invariant c.in_err-write_made_row.ensures (search rules)

pub loop-row-preserved : goal.loop-row-preserved
loop-row-preserved g c = row_then c.args.made.now c.loop-row.row c.loop-row.invariant c.in_ok-write_made_row.ensures
