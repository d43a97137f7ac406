use Rattle.std.proofs.Common.{◌≤◌, ◌-◌, [], length, map, take}
use Rattle.port_122.specs.Outside.{Exchange, NoRead}
use Rattle.raster_rows.specs.Pixels.{pixel_octets, clamped}
use Rattle.raster_rows.proofs.writing.give_pixels.Given as goal

abbrev pub invariant-loop-done : goal.invariant-loop-done
invariant-loop-done g l = record {
  within : l.done ≤ length l.pixels;
  out : Exchange (g.X.Port.outside l.initial.port) (g.X.Port.outside l.port) []
      (pixel_octets l.form.depth (map (clamped l.form.depth l.form.signed) (take l.done l.pixels))) [] NoRead;
}

abbrev pub decreases-loop-done : goal.decreases-loop-done
decreases-loop-done g l = length l.pixels - l.done
