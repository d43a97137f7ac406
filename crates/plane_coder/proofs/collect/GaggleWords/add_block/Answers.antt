use Rattle.std.proofs.Common.{arith}
use Rattle.std.proofs.lemmas.Grind.{common_steps}
use Rattle.plane_coder.proofs.Listing.{lists_wanted}
use Rattle.plane_coder.proofs.BlockStages.{deep_parents, deep_children, deep_grandchildren}
use Rattle.plane_coder.proofs.collect.GaggleWords.add_block.Goals as goal

pub add_parents-requires : goal.add_parents-requires
add_parents-requires g c = omega (arith, c.requires.few.parents)

pub add_children-requires : goal.add_children-requires
add_children-requires g c = record { sets = c.sets-sets.ensures; room = omega (arith, c.requires.few.children) }

pub add_grandchildren-requires : goal.add_grandchildren-requires
add_grandchildren-requires g c = record { sets = c.sets-sets.ensures; room = omega (arith, c.requires.few.grandchildren) }

pub returns : goal.returns
returns g c = grind (arith, common_steps, lists_wanted, deep_parents, deep_children, deep_grandchildren)
