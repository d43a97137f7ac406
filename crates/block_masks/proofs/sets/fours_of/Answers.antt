use Rattle.block_masks.proofs.Fours.{four_known}
use Rattle.block_masks.proofs.sets.fours_of.Goals as goal

pub returns-clause-if_known : goal.returns-clause-if_known
returns-clause-if_known c j lt = four_known c.args.mask c.args.at j lt
