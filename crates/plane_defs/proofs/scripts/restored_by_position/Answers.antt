use Rattle.plane_defs.proofs.NumbersGiven.{restored_by_position}
use Rattle.plane_defs.proofs.scripts.restored_by_position.Goals as goal

pub returns : goal.returns
returns c = restored_by_position
