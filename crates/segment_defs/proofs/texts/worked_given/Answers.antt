use Rattle.segment_defs.proofs.WorkedGivenRead.{worked_given}
use Rattle.segment_defs.proofs.texts.worked_given.Goals as goal

pub returns : goal.returns
returns c = worked_given
