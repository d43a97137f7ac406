use Rattle.segment_code.proofs.EndsSay.{texts_end_so}
use Rattle.segment_code.proofs.laws.texts_end_so.Goals as goal

pub returns : goal.returns
returns c = texts_end_so c.segments_are_read.ensures
