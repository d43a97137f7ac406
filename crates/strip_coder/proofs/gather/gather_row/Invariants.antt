use Rattle.std.proofs.Common.{◌≤◌, ◌-◌}
use Rattle.base_122.specs.Sizes.{block_count}
use Rattle.block_families.specs.Places.{gathered}
use Rattle.wave_strip.specs.Strip.{number_in}
use Rattle.strip_coder.specs.Plans.{job_of}
use Rattle.strip_coder.specs.Steps.{HasGone}
use Rattle.strip_coder.proofs.gather.gather_row.Given as goal

abbrev pub invariant-loop-column : goal.invariant-loop-column
invariant-loop-column g l = record {
  few : l.column ≤ block_count l.plan.setting.width;
  gone : HasGone (job_of g.S.SegmentOut.form l.plan) (gathered (number_in l.initial.work.strip) l.plan.setting.weights.shifts) l.column
      (g.X.Port.outside l.initial.port) (g.X.Port.outside l.port) l.initial.work l.work;
}

abbrev pub decreases-loop-column : goal.decreases-loop-column
decreases-loop-column g l = block_count l.plan.setting.width - l.column
