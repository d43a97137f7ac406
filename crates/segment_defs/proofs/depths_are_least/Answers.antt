use Rattle.segment_defs.proofs.DepthLaws.{depths_law}
use Rattle.segment_defs.proofs.depths_are_least.Goals as goal

pub returns : goal.returns
returns c = depths_law
