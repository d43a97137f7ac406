use Rattle.segment_defs.proofs.WishReads.{wishes_agree}
use Rattle.segment_defs.proofs.texts.wishes_agree.Goals as goal

pub returns : goal.returns
returns c = wishes_agree
