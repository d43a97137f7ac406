use Rattle.plane_defs.proofs.PlanesBack.{planes_are_back}
use Rattle.plane_defs.proofs.scripts.planes_are_returned.Goals as goal

pub returns : goal.returns
returns c = planes_are_back
