use Rattle.segment_code.proofs.SpelledDecide.{spelled_texts_decide}
use Rattle.segment_code.proofs.laws.spelled_texts_decide.Goals as goal

pub returns : goal.returns
returns c = spelled_texts_decide c.segments_are_read.ensures
