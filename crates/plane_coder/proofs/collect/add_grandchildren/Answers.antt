use Rattle.std.proofs.Common.{arith}
use Rattle.std.proofs.lemmas.Grind.{common_steps}
use Rattle.plane_coder.proofs.Listing.{lists_both, lists_if, lists_if_not}
use Rattle.plane_coder.proofs.collect.add_grandchildren.Goals as goal

pub returns-then-not-is_wanted : goal.returns-then-not-is_wanted
returns-then-not-is_wanted c = lists_if_not c.args.words.now _ 16 c.if-not-is_wanted.true

pub add_all_quads-requires-clause-room : goal.add_all_quads-requires-clause-room
add_all_quads-requires-clause-room c = omega (arith, c.push_word.ensures.more, c.requires.room)

pub returns : goal.returns
returns c = grind (arith, common_steps, lists_if, lists_both)
