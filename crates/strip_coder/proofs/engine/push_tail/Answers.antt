use Rattle.std.proofs.Common.{arith, ◌-◌}
use Rattle.std.proofs.lemmas.Grind.{common_steps}
use Rattle.base_122.specs.Sizes.{padded_size}
use Rattle.strip_coder.specs.Plans.{job_of}
use Rattle.strip_coder.proofs.TailPushes.{none_pushed, then_pushed, then_unpushed}
use Rattle.strip_coder.proofs.engine.push_tail.Goals as goal

pub loop-init : goal.loop-init
loop-init g c = none_pushed (job_of g.S.SegmentOut.form c.args.plan.now) c.args.work.now c.requires.running

pub push-requires-clause-running : goal.push-requires-clause-running
push-requires-clause-running g c = c.loop.invariant.running

pub push-requires-clause-few : goal.push-requires-clause-few
push-requires-clause-few g c = grind (arith, common_steps)

pub push-requires-clause-small : goal.push-requires-clause-small
push-requires-clause-small g c = grind (arith, common_steps)

pub returns-in_err-push : goal.returns-in_err-push
returns-in_err-push g c =
    let s = job_of g.S.SegmentOut.form c.args.plan.now in
    then_unpushed (g.X.Port.outside c.args.port.now) (g.X.Port.outside c.loop.port) (g.X.Port.outside c.push.new.port) c.from_residual.result s
    c.loop.counter (padded_size s.rows - s.rows)
    c.args.work.now c.loop.work c.push.new.work c.requires.in_range c.from_residual.ensures.0 c.requires.rows c.loop.invariant c.in_err-push.ensures

pub loop-preserved : goal.loop-preserved
loop-preserved g c =
    then_pushed (job_of g.S.SegmentOut.form c.args.plan.now) c.loop.counter c.args.work.now c.loop.work c.push.new.work c.requires.rows c.loop.invariant
    c.in_ok-push.ensures

pub returns : goal.returns
returns g c = grind (arith, common_steps)
