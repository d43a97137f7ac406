use Rattle.bare_stream.proofs.WishReads.{wishes_agree}
use Rattle.bare_stream.proofs.bare_wishes_agree.Goals as goal

pub returns : goal.returns
returns c = wishes_agree c.answers_agree.ensures
