use Rattle.bare_text.proofs.BareHeld as laws
use Rattle.bare_text.proofs.bare_texts_hold.Goals as goal

pub returns : goal.returns
returns c = laws.bare_texts_hold c.spelled_texts_decide.ensures
