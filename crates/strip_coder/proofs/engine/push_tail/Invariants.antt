use Rattle.strip_coder.specs.Plans.{job_of}
use Rattle.strip_coder.specs.Steps.{HasPushedOn}
use Rattle.strip_coder.proofs.engine.push_tail.Given as goal

abbrev pub invariant-loop : goal.invariant-loop
invariant-loop g l = HasPushedOn (job_of g.S.SegmentOut.form l.plan) l.counter (g.X.Port.outside l.initial.port) (g.X.Port.outside l.port) l.initial.work l.work
