use Rattle.strip122.specs.MadeRasters.{made_raster}
use Rattle.strip122.proofs.Statuses.{given_cut}
use Rattle.strip122.proofs.top.make.Goals as goal

pub returns-in-Err : goal.returns-in-Err
returns-in-Err g c = given_cut (made_raster c.args.made.now) _ _ _ c.in-Err.ensures c.note_line.ensures
