use Rattle.std.proofs.Common.{rules}
use Rattle.block_families.proofs.PutBack.{four_parts}
use Rattle.block_families.proofs.scattering.unweighted_square.Goals as goal

pub returns : goal.returns
returns c = four_parts _ _ _ _ c.args.from.now c.args.at c.args.shift (search rules) (search rules) (search rules) (search rules)
