use Rattle.segment_defs.proofs.TextOutcomes.{texts_have_outcomes}
use Rattle.segment_defs.proofs.texts.texts_have_outcomes.Goals as goal

pub returns : goal.returns
returns c = texts_have_outcomes
