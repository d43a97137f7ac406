use Rattle.std.proofs.Common.{◌≡◌, ◌+◌, ◌-◌, ◌*◌, ◌≤◌, min, length, subst, arith}
use borrow.Rule.Slice.PartMut.{put_mid}
use Rattle.plane_reader.proofs.JoinedCells.{JoinedTo, joined_none, joined_more, joined_all, part_below}
use Rattle.plane_reader.proofs.joining.join_numbers.Goals as goal

pub loop-g-init : goal.loop-g-init
loop-g-init c = joined_none c.args.cells.now _ (omega arith)

pub join_group-requires-clause-below : goal.join_group-requires-clause-below
join_group-requires-clause-below c =
    let cells = c.args.cells.now in
    let g = c.loop-g.g in
    let inside : 4096 * g + 1 ≤ length cells = omega (arith, c.loop-g-test.true, c.div_ceil-g-end.ensures) in
    let start : min (4096 * g) (length cells) ≡ 4096 * g = omega (arith, inside) in
    let s = rw start at c.loop-g.invariant in
    let n = c.min.result - 4096 * g in
    part_below c.args.planes g n cells c.loop-g.cells (omega (arith, c.min.ensures, inside)) (omega (arith, c.min.ensures, inside)) s.rest c.requires.below

pub loop-g-preserved : goal.loop-g-preserved
loop-g-preserved c =
    let cells = c.args.cells.now in
    let g = c.loop-g.g in
    let inside : 4096 * g + 1 ≤ length cells = omega (arith, c.loop-g-test.true, c.div_ceil-g-end.ensures) in
    let start : min (4096 * g) (length cells) ≡ 4096 * g = omega (arith, inside) in
    let s = rw start at c.loop-g.invariant in
    let next : c.min.result ≡ min (4096 * (g + 1)) (length cells) = omega (arith, c.min.ensures) in
    subst (λ e. JoinedTo e cells (put_mid (4096 * g) (c.min.result - 4096 * g) c.loop-g.cells c.join_group.new.part)) next
    (joined_more g (c.min.result - 4096 * g) c.min.result (omega (arith, c.min.ensures, inside)) (omega (arith, c.min.ensures)) (omega (
      arith,
      c.join_group.auto.part,
      c.min.ensures,
      inside,
      c.loop-g.auto.cells,
    )) s c.join_group.ensures)

pub returns : goal.returns
returns c = joined_all (omega (arith, c.loop-g-test.false, c.div_ceil-g-end.ensures)) c.loop-g.invariant
