use Rattle.std.proofs.Common.{◌-◌}
use Rattle.base_122.specs.Sizes.{block_count}
use Rattle.wave_strip.specs.Strip.{answered_of}
use Rattle.strip_coder.specs.Plans.{job_of}
use Rattle.strip_coder.specs.Steps.{HasFinishedOn}
use Rattle.strip_coder.proofs.engine.finish.Given as goal

abbrev pub invariant-loop : goal.invariant-loop
invariant-loop g l = HasFinishedOn (job_of g.S.SegmentOut.form l.plan) (g.X.Port.outside l.initial.port) (g.X.Port.outside l.port) l.initial.work l.work

abbrev pub decreases-loop : goal.decreases-loop
decreases-loop g l = block_count l.plan.rows - answered_of l.work.strip
