use Rattle.segment_defs.proofs.TextGiven.{texts_are_given}
use Rattle.segment_defs.proofs.texts.texts_are_given.Goals as goal

pub returns : goal.returns
returns c = texts_are_given
