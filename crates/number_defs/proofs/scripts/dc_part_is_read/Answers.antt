use Rattle.number_defs.proofs.DcLaws.{dc_laws}
use Rattle.number_defs.proofs.scripts.dc_part_is_read.Goals as goal

pub returns : goal.returns
returns c = dc_laws
