use Rattle.block_masks.proofs.ByteLanes.{twice}
use Rattle.block_masks.proofs.bytes.doubled.Goals as goal

pub returns : goal.returns
returns c = twice _ c.args.bytes
