use Rattle.segment_defs.proofs.WishReads.{segments_are_read}
use Rattle.segment_defs.proofs.texts.segments_are_read.Goals as goal

pub returns : goal.returns
returns c = segments_are_read
