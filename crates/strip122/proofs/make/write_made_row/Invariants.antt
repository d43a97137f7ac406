use Rattle.std.proofs.Common.{◌≡◌, ◌≤◌, ◌-◌, [], length}
use Rattle.port_122.specs.Outside.{Exchange, NoRead}
use Rattle.strip122.specs.MadeRasters.{made_part}
use Rattle.strip122.proofs.make.write_made_row.Given as goal

abbrev pub invariant-loop-done : goal.invariant-loop-done
invariant-loop-done g l = record {
  within : l.done ≤ l.made.width;
  same : length l.pixels ≡ length l.initial.pixels;
  out : Exchange (g.X.Port.outside l.initial.port) (g.X.Port.outside l.port) [] (made_part l.made l.row 0 l.done) [] NoRead;
}

abbrev pub decreases-loop-done : goal.decreases-loop-done
decreases-loop-done g l = l.made.width - l.done
