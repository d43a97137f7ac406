use Rattle.segment_defs.proofs.Sizes.{size_law}
use Rattle.segment_defs.proofs.size_is_least.Goals as goal

pub returns : goal.returns
returns c = size_law
