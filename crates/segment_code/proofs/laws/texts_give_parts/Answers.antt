use Rattle.segment_code.proofs.PartsGiven.{texts_give_parts}
use Rattle.segment_code.proofs.laws.texts_give_parts.Goals as goal

pub returns : goal.returns
returns c = texts_give_parts
