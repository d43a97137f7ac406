use Rattle.std.proofs.Common.{◌∷◌, []}
use Rattle.plane_coder.proofs.Choosing.{best_of_two, best_of_three, best_of_four}
use Rattle.plane_coder.proofs.choose.best_options.Goals as goal

pub returns-clause-best : goal.returns-clause-best
returns-clause-best c book entries costs =
    let a = c.least.ensures in
    let b = c.least-2.ensures in
    let d = c.least-3.ensures in
    let two = best_of_two book c.args.costs entries costs c.least.result a.known a.fewest a.least in
    let three = best_of_three book c.args.costs entries costs c.least-2.result b.known b.fewest b.least in
    let four = best_of_four book c.args.costs entries costs c.least-3.result d.known d.fewest d.least in
    λ i. two i ∷ three i ∷ four i ∷ []
