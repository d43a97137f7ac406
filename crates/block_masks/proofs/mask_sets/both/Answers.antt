use Rattle.std.proofs.lemmas.Nat.{and_le_l}
use Rattle.block_masks.proofs.Maskings.{shows_both}
use Rattle.block_masks.proofs.mask_sets.both.Goals as goal

pub returns-clause-within : goal.returns-clause-within
returns-clause-within c = and_le_l c.args.a c.args.b

pub returns-clause-if_known : goal.returns-clause-if_known
returns-clause-if_known c f g start count p q = shows_both p q
