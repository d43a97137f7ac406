use Rattle.plane_defs.proofs.PlaneGoes.{planes_go}
use Rattle.plane_defs.proofs.scripts.planes_go.Goals as goal

pub returns : goal.returns
returns c = planes_go
