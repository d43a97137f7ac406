use Rattle.std.proofs.Common.{arith, ◌≤◌, ◌<◌, ℕ}
use Rattle.plane_defs.specs.Choice.{cost}
use Rattle.plane_defs.proofs.Cheapest.{cheapest_is}
use Rattle.word_codes.proofs.choice.best_option.Goals as goal

pub returns-clause-cheapest : goal.returns-clause-cheapest
returns-clause-cheapest c =
    let i = c.loop-option.invariant in
    let fewest : (other : ℕ) → other < c.args.length → cost c.args.book.now c.args.length c.args.counts.now c.loop-option.best ≤ cost c.args.book.now
    c.args.length c.args.counts.now other =
    λ other lt. omega (arith, i.value, i.fewest other (omega arith)) in
    let least : (other : ℕ) → other < c.loop-option.best → cost c.args.book.now c.args.length c.args.counts.now c.loop-option.best < cost c.args.book.now
    c.args.length c.args.counts.now other =
    λ other lt. omega (arith, i.value, i.least other lt) in
    cheapest_is c.args.book.now c.args.length c.args.counts.now c.loop-option.best (omega (arith, i.known)) fewest least
