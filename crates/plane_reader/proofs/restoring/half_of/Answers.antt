use Rattle.std.proofs.Common.{◌-◌, ◌∙◌, sym, arith}
use Rattle.plane_defs.specs.Sets.{coded}
use Rattle.plane_reader.proofs.RestoredBlocks.{half_there, half_none, half_over}
use Rattle.plane_reader.proofs.restoring.half_of.Goals.{else-low-gt0-via-then-low-gt0+else-has, else-low-gt0-via-else-low-gt0}
use Rattle.plane_reader.proofs.restoring.half_of.Goals as goal

pub returns-then-has : goal.returns-then-has
returns-then-has c =
    let weights = c.args.plan.now.weights.shifts in
    half_there weights c.args.low c.if-low-gt0.true (sym (c.has.ensures (coded weights (c.args.low - 1)) 0 64 c.coded_in.ensures (omega arith)) ∙ c.if-has.true)

pub returns-else-low-gt0 : goal.returns-else-low-gt0
returns-else-low-gt0 c =
    let weights = c.args.plan.now.weights.shifts in
    elim c.else-low-gt0.branch [
      | else-low-gt0-via-then-low-gt0+else-has w ↦ half_over weights c.args.low w.if-low-gt0.true (sym (w.has.ensures (coded weights (c.args.low - 1)) 0 64
          w.coded_in.ensures (omega arith)) ∙ w.if-has.false)
      | else-low-gt0-via-else-low-gt0 w ↦ half_none weights c.args.low (omega (arith, w.if-low-gt0.false))
    ]
