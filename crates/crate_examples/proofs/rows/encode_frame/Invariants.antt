use Rattle.std.proofs.Common.{◌≡◌, false}
use Rattle.raster_rows.specs.Pixels.{raster_pixel}
use Rattle.crate_examples.specs.Frames.{HasGiven}
use Rattle.crate_examples.proofs.rows.encode_frame.Given as goal

abbrev pub invariant-loop-row : goal.invariant-loop-row
invariant-loop-row g l = record {
  given : HasGiven l.setting (raster_pixel 8 false l.setting.width l.frame) (g.X.Port.outside l.fn.port) (g.X.Port.outside l.port) l.work;
  rows : l.work.at.rows ≡ l.row;
}
