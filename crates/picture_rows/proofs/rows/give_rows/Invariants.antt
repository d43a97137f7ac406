use Rattle.std.proofs.Common.{◌-◌, ◌*◌}
use Rattle.raster_rows.specs.Gathered.{waiting_of}
use Rattle.picture_rows.specs.Pictures.{picture_state}
use Rattle.picture_rows.specs.Steps.{HasGatheredSome, IsFor}
use Rattle.picture_rows.proofs.rows.give_rows.Given as goal

abbrev pub invariant-loop : goal.invariant-loop
invariant-loop g l = record {
  gathered : HasGatheredSome (g.X.Port.outside l.initial.port) (g.X.Port.outside l.port) (waiting_of l.rows) (picture_state l.initial.picture)
      (picture_state l.picture);
  form : IsFor l.initial.picture.geometry l.rows;
}

abbrev pub decreases-loop : goal.decreases-loop
decreases-loop g l = 8 * l.picture.at.row - l.picture.at.next
