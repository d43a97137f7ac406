use Rattle.segment_defs.proofs.WishReads.{texts_read_as_wished}
use Rattle.segment_defs.proofs.texts.texts_read_as_wished.Goals as goal

pub returns : goal.returns
returns c = texts_read_as_wished
