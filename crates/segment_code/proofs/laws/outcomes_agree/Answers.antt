use Rattle.segment_code.proofs.OutcomesAgree.{outcomes_agree}
use Rattle.segment_code.proofs.laws.outcomes_agree.Goals as goal

pub returns : goal.returns
returns c = outcomes_agree
