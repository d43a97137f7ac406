use Rattle.plane_defs.proofs.TypesWritten.{types_written}
use Rattle.plane_defs.proofs.scripts.types_are_read.Goals as goal

pub returns : goal.returns
returns c = types_written
