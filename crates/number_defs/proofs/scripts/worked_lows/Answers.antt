use Rattle.number_defs.proofs.WorkedLowsRead.{worked_lows}
use Rattle.number_defs.proofs.scripts.worked_lows.Goals as goal

pub returns : goal.returns
returns c = worked_lows
