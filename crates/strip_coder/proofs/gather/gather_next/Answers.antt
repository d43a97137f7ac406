use Rattle.std.proofs.Common.{◌+◌, ℕ, ℤ, List, refl, arith}
use Rattle.base_122.proofs.GeometryRanges.{in_range-image_geometry}
use Rattle.block_families.specs.Places.{gathered}
use Rattle.wave_strip.specs.Strip.{number_in}
use Rattle.strip_coder.specs.Plans.{job_of}
use Rattle.strip_coder.proofs.GatherSteps.{put_some, put_part, put_full, put_gone, put_broken, failed_some}
use Rattle.strip_coder.proofs.SegmentSteps.{room_left}
use Rattle.strip_coder.proofs.gather.gather_next.Goals as goal

pub blocks_of-size-requires-clause-range : goal.blocks_of-size-requires-clause-range
blocks_of-size-requires-clause-range g c =
    let s = job_of g.S.SegmentOut.form c.args.plan.now in
    rw c.geometry_for.ensures (in_range-image_geometry s.setting s.rows c.requires.in_range.in_range c.requires.in_range.height.0)

pub gather_blocks-requires-clause-room : goal.gather_blocks-requires-clause-room
gather_blocks-requires-clause-room g c =
    let size = rw c.geometry_for.ensures at c.blocks_of-size.ensures in
    let part = c.requires.gathered.present c.requires.more in
    room_left (job_of g.S.SegmentOut.form c.args.plan.now) c.args.work.now c.min-count.result c.requires.in_range c.requires.gathered
    (omega (arith, size, part, c.min.ensures, c.min-count.ensures))

pub returns-then-work-size : goal.returns-then-work-size
returns-then-work-size g c =
    let s = job_of g.S.SegmentOut.form c.args.plan.now in
    let w = c.args.work.now in
    let n = c.min-count.result in
    let numbers : ℕ → List ℤ = λ k. gathered (number_in w.strip) s.setting.weights.shifts (c.args.column + k) in
    let size = rw c.geometry_for.ensures at c.blocks_of-size.ensures in
    let part = c.requires.gathered.present c.requires.more in (
      omega (arith, size, part, c.min.ensures, c.min-count.ensures, c.requires.some),
      omega (arith, c.min.ensures, c.min-count.ensures),
      put_part s c.requires.in_range w _ n numbers c.requires.gathered c.requires.more
          (put_some w _ n numbers (record { strip = refl; row = refl; blocks = c.gather_blocks.ensures.most; writer = refl; room = refl }) refl refl
          (c.gather_blocks.ensures.puts w.at.filled c.requires.gathered.held))
          (omega (arith, size, c.if-work-size.true)),
    )

pub write_present-requires-clause-full : goal.write_present-requires-clause-full
write_present-requires-clause-full g c =
    let s = job_of g.S.SegmentOut.form c.args.plan.now in
    let w = c.args.work.now in
    let n = c.min-count.result in
    let numbers : ℕ → List ℤ = λ k. gathered (number_in w.strip) s.setting.weights.shifts (c.args.column + k) in
    let size = rw c.geometry_for.ensures at c.blocks_of-size.ensures in
    let part = c.requires.gathered.present c.requires.more in
    put_full s c.requires.in_range w _ n numbers c.requires.gathered c.requires.more
    (put_some w _ n numbers (record { strip = refl; row = refl; blocks = c.gather_blocks.ensures.most; writer = refl; room = refl }) refl refl
    (c.gather_blocks.ensures.puts w.at.filled c.requires.gathered.held))
    (omega (arith, size, part, c.min.ensures, c.min-count.ensures, c.if-work-size.false))

pub returns-in_err-write_present : goal.returns-in_err-write_present
returns-in_err-write_present g c =
    let s = job_of g.S.SegmentOut.form c.args.plan.now in
    let w = c.args.work.now in
    let n = c.min-count.result in
    let numbers : ℕ → List ℤ = λ k. gathered (number_in w.strip) s.setting.weights.shifts (c.args.column + k) in
    failed_some (g.X.Port.outside c.args.port.now) (g.X.Port.outside c.write_present.new.port) c.from_residual.result s numbers n c.args.most w
    c.write_present.new.work c.from_residual.ensures.0 (omega (arith, c.min.ensures, c.min-count.ensures))
    (put_broken s c.requires.in_range w _ c.write_present.new.work n numbers c.requires.more
    (put_some w _ n numbers (record { strip = refl; row = refl; blocks = c.gather_blocks.ensures.most; writer = refl; room = refl }) refl refl
    (c.gather_blocks.ensures.puts w.at.filled c.requires.gathered.held)) c.in_err-write_present.ensures)

pub returns : goal.returns
returns g c =
    let s = job_of g.S.SegmentOut.form c.args.plan.now in
    let w = c.args.work.now in
    let n = c.min-count.result in
    let numbers : ℕ → List ℤ = λ k. gathered (number_in w.strip) s.setting.weights.shifts (c.args.column + k) in
    let size = rw c.geometry_for.ensures at c.blocks_of-size.ensures in
    let part = c.requires.gathered.present c.requires.more in (
      omega (arith, size, part, c.min.ensures, c.min-count.ensures, c.requires.some),
      omega (arith, c.min.ensures, c.min-count.ensures),
      put_gone s c.requires.in_range w _ c.write_present.new.work n numbers c.requires.gathered c.requires.more
          (put_some w _ n numbers (record { strip = refl; row = refl; blocks = c.gather_blocks.ensures.most; writer = refl; room = refl }) refl refl
          (c.gather_blocks.ensures.puts w.at.filled c.requires.gathered.held))
          (omega (arith, size, part, c.min.ensures, c.min-count.ensures, c.if-work-size.false)) c.in_ok-write_present.ensures,
    )
