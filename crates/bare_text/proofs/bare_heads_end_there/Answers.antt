use Rattle.bare_text.proofs.FurtherOctets.{heads_end_there}
use Rattle.bare_text.proofs.bare_heads_end_there.Goals as goal

pub returns : goal.returns
returns c = heads_end_there
