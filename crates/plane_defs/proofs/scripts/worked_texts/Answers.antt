use Rattle.plane_defs.proofs.WorkedRead.{worked}
use Rattle.plane_defs.proofs.scripts.worked_texts.Goals as goal

pub returns : goal.returns
returns c = worked
