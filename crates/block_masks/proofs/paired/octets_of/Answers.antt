use Rattle.block_masks.proofs.Pairing.{are_octets}
use Rattle.block_masks.proofs.paired.octets_of.Goals as goal

pub returns : goal.returns
returns c = are_octets c.args.high c.args.low
