use Rattle.std.proofs.Common.{arith}
use Rattle.block_families.proofs.PutBack.{puts_on, puts_all}
use Rattle.block_families.proofs.scattering.scatter.Goals as goal

pub returns-clause-scattered : goal.returns-clause-scattered
returns-clause-scattered g c =
    let weights = c.args.weights.now.shifts in
    let column = c.args.column in
    let numbers = c.args.from.now in
    let children = puts_on weights column numbers 0 4 12 4 16 _ _ _ (omega arith) (omega arith) (omega arith) c.scatter_tops.ensures.scattered
    c.scatter_children.ensures.scattered in
    puts_all weights column numbers _ _
    (puts_on weights column numbers 0 16 48 16 64 _ _ _ (omega arith) (omega arith) (omega arith) children c.scatter_grandchildren.ensures.scattered)
