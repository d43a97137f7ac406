use Rattle.segment_defs.proofs.TextRestored.{texts_are_restored}
use Rattle.segment_defs.proofs.texts.texts_are_restored.Goals as goal

pub returns : goal.returns
returns c = texts_are_restored
