use Rattle.segment_defs.proofs.WorkedRead.{worked}
use Rattle.segment_defs.proofs.texts.worked_texts.Goals as goal

pub returns : goal.returns
returns c = worked
