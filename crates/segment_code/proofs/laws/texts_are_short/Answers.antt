use Rattle.segment_code.proofs.TextBits as laws
use Rattle.segment_code.proofs.laws.texts_are_short.Goals as goal

pub returns : goal.returns
returns c = laws.texts_are_short
