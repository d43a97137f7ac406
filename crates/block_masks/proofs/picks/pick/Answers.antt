use Rattle.block_masks.proofs.Picking.{picked_of, small_entry, fitting_entry}
use Rattle.block_masks.proofs.picks.pick.Goals as goal

pub returns-clause-picked : goal.returns-clause-picked
returns-clause-picked c f g start count few p q = picked_of c.args.due c.args.bits start count f g few p q

pub returns-clause-within : goal.returns-clause-within
returns-clause-within c = small_entry c.args.due c.args.bits c.requires.due c.requires.bits

pub returns-clause-fits : goal.returns-clause-fits
returns-clause-fits c = fitting_entry c.args.due c.args.bits c.requires.due c.requires.bits
