use Rattle.std.proofs.Common.{◌≡◌, ◌+◌, ◌-◌, ◌*◌, ◌≤◌, min, length, subst, arith}
use borrow.Rule.Slice.PartMut.{put_mid}
use Rattle.plane_reader.proofs.SlicedCells.{SlicedTo, sliced_none, sliced_more, sliced_all, only_ready, only_below, flat_acs, part_acs}
use Rattle.plane_reader.proofs.slicing.slice_numbers.Goals as goal

pub loop-g-init : goal.loop-g-init
loop-g-init c = sliced_none c.args.blocks.now _ (omega arith)

pub slice_group-requires-clause-no_acs : goal.slice_group-requires-clause-no_acs
slice_group-requires-clause-no_acs c =
    let start : min (4096 * c.loop-g.g) (length c.args.blocks.now) ≡ 4096 * c.loop-g.g = omega (arith, c.loop-g-test.true, c.div_ceil-g-end.ensures) in
    let s = rw start at c.loop-g.invariant in
    rw s.rest (part_acs c.args.blocks.now c.loop-g.g (c.min.result - 4096 * c.loop-g.g) (flat_acs c.args.blocks.now c.requires.whole c.requires.no_acs))

pub loop-g-preserved : goal.loop-g-preserved
loop-g-preserved c =
    let blocks = c.args.blocks.now in
    let g = c.loop-g.g in
    let inside : 4096 * g + 1 ≤ length blocks = omega (arith, c.loop-g-test.true, c.div_ceil-g-end.ensures) in
    let start : min (4096 * g) (length blocks) ≡ 4096 * g = omega (arith, inside) in
    let s = rw start at c.loop-g.invariant in
    let next : c.min.result ≡ min (4096 * (g + 1)) (length blocks) = omega (arith, c.min.ensures) in
    subst (λ e. SlicedTo e blocks (put_mid (4096 * g) (c.min.result - 4096 * g) c.loop-g.blocks c.slice_group.new.part)) next
    (sliced_more g (c.min.result - 4096 * g) c.min.result (omega (arith, c.min.ensures, inside)) (omega (arith, c.min.ensures)) (omega (
      arith,
      c.slice_group.auto.part,
      c.min.ensures,
      inside,
      c.loop-g.auto.blocks,
    )) s c.slice_group.ensures.numbers c.slice_group.ensures.only)

pub returns-clause-numbers : goal.returns-clause-numbers
returns-clause-numbers c = (sliced_all (omega (arith, c.loop-g-test.false, c.div_ceil-g-end.ensures)) c.loop-g.invariant).0

pub returns-clause-ready : goal.returns-clause-ready
returns-clause-ready c =
    let all = sliced_all (omega (arith, c.loop-g-test.false, c.div_ceil-g-end.ensures)) c.loop-g.invariant in
    only_ready c.args.blocks.now c.loop-g.blocks all.0 all.1 c.requires.no_acs

pub returns-clause-below : goal.returns-clause-below
returns-clause-below c =
    let all = sliced_all (omega (arith, c.loop-g-test.false, c.div_ceil-g-end.ensures)) c.loop-g.invariant in
    only_below c.loop-g.blocks all.1
