use Rattle.std.proofs.Common.{arith, ◌≡◌, ◌+◌, ◌-◌, ◌/◌, ◌<◌, ◌∙◌, ap, subst}
use Rattle.base_122.specs.Sizes.{block_count}
use Rattle.base_122.proofs.GeometryRanges.{in_range-image_geometry}
use Rattle.block_families.specs.Places.{gathered}
use Rattle.wave_strip.specs.Strip.{number_in, is_current}
use Rattle.strip_coder.specs.Plans.{job_of}
use Rattle.strip_coder.specs.Steps.{HasGone, HasBroken}
use Rattle.strip_coder.proofs.GatherSteps.{none_gone, then_gone, then_broken, failed_gathers, more_segments}
use Rattle.strip_coder.proofs.gather.gather_row.Goals as goal

pub padded_width-columns-requires : goal.padded_width-columns-requires
padded_width-columns-requires g c =
    let s = job_of g.S.SegmentOut.form c.args.plan.now in
    rw c.geometry_for.ensures (in_range-image_geometry s.setting s.rows c.requires.in_range.in_range c.requires.in_range.height.0)

pub loop-column-init : goal.loop-column-init
loop-column-init g c = record {
  few = omega arith;
  gone = none_gone (job_of g.S.SegmentOut.form c.args.plan.now) c.args.work.now
      (gathered (number_in c.args.work.now.strip) c.args.plan.now.setting.weights.shifts) c.requires.gathered;
}

pub gather_next-requires-clause-gathered : goal.gather_next-requires-clause-gathered
gather_next-requires-clause-gathered g c = c.loop-column.invariant.gone.gathered

pub gather_next-requires-clause-more : goal.gather_next-requires-clause-more
gather_next-requires-clause-more g c =
    let s = job_of g.S.SegmentOut.form c.args.plan.now in
    let columns = rw c.geometry_for.ensures at c.padded_width-columns.ensures in
    let so_far = c.loop-column.invariant.gone in
    more_segments s c.requires.in_range c.loop-column.work so_far.gathered (omega (arith, columns, so_far.count, c.requires.room, c.loop-column-test.true))

pub gather_next-requires-clause-valid : goal.gather_next-requires-clause-valid
gather_next-requires-clause-valid g c = ap is_current c.loop-column.invariant.gone.stays.strip ∙ c.requires.valid

pub gather_next-requires-clause-columns : goal.gather_next-requires-clause-columns
gather_next-requires-clause-columns g c =
    let columns = rw c.geometry_for.ensures at c.padded_width-columns.ensures in
    omega (arith, columns, c.loop-column-test.true)

pub returns-in_err-column : goal.returns-in_err-column
returns-in_err-column g c =
    let s = job_of g.S.SegmentOut.form c.args.plan.now in
    let now = c.args.work.now.strip in
    let column = c.loop-column.column in
    let all = block_count s.setting.width in
    let columns = rw c.geometry_for.ensures at c.padded_width-columns.ensures in
    let lt : column < all = omega (arith, columns, c.loop-column-test.true) in
    let most = c.padded_width-columns.result / 8 - column in
    let same : most ≡ all - column = omega (arith, columns) in
    let so_far = c.loop-column.invariant.gone in
    let broken = subst (λ strip. HasBroken s (λ k. gathered (number_in strip) s.setting.weights.shifts (column + k)) most
    (g.X.Port.outside c.loop-column.port) (g.X.Port.outside c.gather_next.new.port) c.loop-column.work c.gather_next.new.work) so_far.stays.strip
    c.in_err-column.ensures in
    failed_gathers (g.X.Port.outside c.args.port.now) (g.X.Port.outside c.gather_next.new.port) c.from_residual.result s
    (gathered (number_in now) s.setting.weights.shifts) all c.args.work.now c.gather_next.new.work c.from_residual.ensures.0
    (then_broken s c.args.work.now c.loop-column.work c.gather_next.new.work (gathered (number_in now) s.setting.weights.shifts) all column most
    (omega (arith, same, lt)) so_far broken)

pub loop-column-preserved : goal.loop-column-preserved
loop-column-preserved g c =
    let s = job_of g.S.SegmentOut.form c.args.plan.now in
    let now = c.args.work.now.strip in
    let column = c.loop-column.column in
    let n = c.in_ok-column.field-0 in
    let columns = rw c.geometry_for.ensures at c.padded_width-columns.ensures in
    let gone = subst (λ strip. HasGone s (λ k. gathered (number_in strip) s.setting.weights.shifts (column + k)) n
    (g.X.Port.outside c.loop-column.port) (g.X.Port.outside c.gather_next.new.port) c.loop-column.work c.gather_next.new.work)
    c.loop-column.invariant.gone.stays.strip c.in_ok-column.ensures.2 in
    record {
      few = omega (arith, columns, c.loop-column-test.true, c.in_ok-column.ensures.1);
      gone = then_gone s c.args.work.now c.loop-column.work c.gather_next.new.work (gathered (number_in now) s.setting.weights.shifts) column n
          c.loop-column.invariant.gone gone;
    }

pub loop-column-smaller : goal.loop-column-smaller
loop-column-smaller g c =
    let columns = rw c.geometry_for.ensures at c.padded_width-columns.ensures in
    omega (arith, columns, c.loop-column-test.true, c.in_ok-column.ensures.0, c.in_ok-column.ensures.1)

pub returns : goal.returns
returns g c =
    let s = job_of g.S.SegmentOut.form c.args.plan.now in
    let columns = rw c.geometry_for.ensures at c.padded_width-columns.ensures in
    let all : c.loop-column.column ≡ block_count s.setting.width = omega (arith, columns, c.loop-column-test.false, c.loop-column.invariant.few) in
    rw all at c.loop-column.invariant.gone
