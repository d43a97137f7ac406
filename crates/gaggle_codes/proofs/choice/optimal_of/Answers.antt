use Rattle.std.proofs.Common.{arith}
use Rattle.gaggle_codes.proofs.Least.{best_start, best_changes, best_stays, best_of_all}
use Rattle.gaggle_codes.proofs.choice.optimal_of.Goals as goal
use Rattle.gaggle_codes.proofs.choice.optimal_of.Goals.{then-needed-fewest, else-needed-fewest}
use Rattle.std.proofs.lemmas.Grind.{common_steps}

pub loop-k-init : goal.loop-k-init
loop-k-init c = best_start _ _ _ (omega arith)

pub loop-k-preserved : goal.loop-k-preserved
loop-k-preserved c =
    let N = c.args.bits in
    let values = c.args.values.now in
    let k = c.loop-k.k in
    elim c.if-needed-fewest.branch [
      | then-needed-fewest w ↦
          rw (w.best-is, w.fewest-is) (best_changes N values k c.loop-k.best c.loop-k.fewest c.split_bits-needed.result c.requires.low c.requires.high
          (omega arith) c.split_bits-needed.ensures w.if-needed-fewest.true c.loop-k.invariant)
      | else-needed-fewest w ↦
          rw (w.best-is, w.fewest-is) (best_stays N values k c.loop-k.best c.loop-k.fewest c.split_bits-needed.result c.requires.low c.requires.high
          (omega arith) c.split_bits-needed.ensures w.if-needed-fewest.false c.loop-k.invariant)
    ]

pub returns : goal.returns
returns c = grind (arith, common_steps, best_of_all)
