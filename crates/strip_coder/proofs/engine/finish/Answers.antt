use Rattle.std.proofs.Common.{arith}
use Rattle.std.proofs.lemmas.Grind.{common_steps}
use Rattle.strip_coder.specs.Plans.{job_of}
use Rattle.strip_coder.proofs.ImageEnds.{none_finished, then_finished, then_unfinished, all_out}
use Rattle.strip_coder.proofs.engine.finish.Goals as goal

pub loop-init : goal.loop-init
loop-init g c = none_finished (job_of g.S.SegmentOut.form c.args.plan.now) c.args.work.now c.requires.ending

pub finish_one-requires-clause-ending : goal.finish_one-requires-clause-ending
finish_one-requires-clause-ending g c = c.loop.invariant.ending

pub returns-in_err-finish_one : goal.returns-in_err-finish_one
returns-in_err-finish_one g c =
    then_unfinished (g.X.Port.outside c.args.port.now) (g.X.Port.outside c.loop.port) (g.X.Port.outside c.finish_one.new.port) c.from_residual.result
    (job_of g.S.SegmentOut.form c.args.plan.now) c.args.work.now c.loop.work c.finish_one.new.work
    c.from_residual.ensures.0 c.loop.invariant c.in_err-finish_one.ensures

pub loop-smaller : goal.loop-smaller
loop-smaller g c = grind (arith, common_steps)

pub loop-preserved : goal.loop-preserved
loop-preserved g c = then_finished (job_of g.S.SegmentOut.form c.args.plan.now) c.args.work.now c.loop.work c.finish_one.new.work c.loop.invariant
    (rw c.if-branch.true at c.in_ok-finish_one.ensures)

pub returns : goal.returns
returns g c = all_out (job_of g.S.SegmentOut.form c.args.plan.now) c.args.work.now c.loop.work c.finish_one.new.work c.requires.in_range c.loop.invariant
    (rw c.if-branch.false at c.in_ok-finish_one.ensures)
