use Rattle.segment_defs.proofs.TextReads.{texts_are_read}
use Rattle.segment_defs.proofs.texts.texts_are_read.Goals as goal

pub returns : goal.returns
returns c = texts_are_read
