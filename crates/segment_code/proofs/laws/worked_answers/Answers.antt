use Rattle.segment_code.proofs.WorkedRead.{worked}
use Rattle.segment_code.proofs.laws.worked_answers.Goals as goal

pub returns : goal.returns
returns c = worked
