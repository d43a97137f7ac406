use Rattle.std.proofs.Common.{◌-◌}
use Rattle.base_122.specs.Sizes.{padded_size}
use Rattle.strip_coder.specs.Plans.{job_of}
use Rattle.strip_coder.proofs.ImageEnds.{all_pushed, rest_given, rest_broken}
use Rattle.strip_coder.proofs.engine.write_rest.Goals as goal

pub finish-requires-clause-ending : goal.finish-requires-clause-ending
finish-requires-clause-ending g c =
    all_pushed (job_of g.S.SegmentOut.form c.args.plan.now) c.args.work.now c.push_tail.new.work c.requires.rows c.in-Ok.ensures

pub returns-in_default-finish : goal.returns-in_default-finish
returns-in_default-finish g c =
    let s = job_of g.S.SegmentOut.form c.args.plan.now in
    rest_broken s (padded_size s.rows - s.rows) c.args.work.now c.push_tail.new.work c.finish.new.work c.in-Ok.ensures c.in_default-finish.ensures

pub returns : goal.returns
returns g c =
    let s = job_of g.S.SegmentOut.form c.args.plan.now in
    rest_given s (padded_size s.rows - s.rows) c.args.work.now c.push_tail.new.work c.finish.new.work c.in-Ok.ensures c.in-Ok-finish.ensures
