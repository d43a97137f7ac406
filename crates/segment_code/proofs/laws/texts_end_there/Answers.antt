use Rattle.segment_code.proofs.AnswerLaws.{texts_end_there}
use Rattle.segment_code.proofs.laws.texts_end_there.Goals as goal

pub returns : goal.returns
returns c = texts_end_there c.segments_are_read.ensures
