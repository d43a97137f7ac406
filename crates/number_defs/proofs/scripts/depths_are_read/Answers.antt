use Rattle.number_defs.proofs.DepthLaws.{depth_laws}
use Rattle.number_defs.proofs.scripts.depths_are_read.Goals as goal

pub returns : goal.returns
returns c = depth_laws
