use Rattle.segment_code.proofs.WishedRuns.{answers_agree}
use Rattle.segment_code.proofs.laws.answers_agree.Goals as goal

pub returns : goal.returns
returns c = answers_agree
