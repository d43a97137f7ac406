use Rattle.std.proofs.Common.{[]}
use Rattle.port_122.specs.Outside.{Exchange, NoRead}
use Rattle.raster_rows.specs.Pixels.{raster_octets}
use Rattle.raster_rows.specs.Made.{made_value}
use Rattle.strip122.proofs.make.write_made.Given as goal

abbrev pub invariant-loop-row : goal.invariant-loop-row
invariant-loop-row g l =
    Exchange (g.X.Port.outside l.initial.port) (g.X.Port.outside l.port) [] (raster_octets l.made.depth l.row l.made.width (made_value l.made)) [] NoRead
