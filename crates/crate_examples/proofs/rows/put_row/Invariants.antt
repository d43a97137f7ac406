use Rattle.std.proofs.Common.{false}
use Rattle.raster_rows.specs.Pieces.{PixelsPut}
use Rattle.crate_examples.proofs.rows.put_row.Given as goal

abbrev pub invariant-loop-column : goal.invariant-loop-column
invariant-loop-column l = PixelsPut 8 false l.octets 0 l.column l.initial.row l.row
