use Rattle.std.proofs.Common.{◌∙◌, sym, arith}
use Rattle.std.proofs.lemmas.Grind.{common_steps}
use Rattle.plane_coder.proofs.Listing.{lists_both, lists_if, lists_if_not}
use Rattle.plane_coder.proofs.collect.add_quads.Goals as goal

pub returns-then-not-is_said : goal.returns-then-not-is_said
returns-then-not-is_said c = lists_if_not c.args.words.now _ 5 c.if-not-is_said.true

pub flags_of_quads-requires-clause-enclosing : goal.flags_of_quads-requires-clause-enclosing
flags_of_quads-requires-clause-enclosing c = sym c.requires.enclosing ∙ c.if-not-is_said.false

pub add_quads_types-requires-clause-room : goal.add_quads_types-requires-clause-room
add_quads_types-requires-clause-room c = omega (arith, c.push_word.ensures.more, c.requires.room)

pub returns : goal.returns
returns c = grind (arith, common_steps, lists_if, lists_both)
