use Rattle.plane_coder.proofs.Listing.{lists_if, lists_if_not}
use Rattle.plane_coder.proofs.collect.add_parents.Goals as goal

pub returns-then-not-is_wanted : goal.returns-then-not-is_wanted
returns-then-not-is_wanted c = lists_if_not c.args.words.now _ 1 c.if-not-is_wanted.true

pub returns : goal.returns
returns c = lists_if c.if-not-is_wanted.false c.types.ensures.typed c.push.ensures
