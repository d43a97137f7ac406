use Rattle.std.proofs.Common.{◌≡◌, ◌*◌, arith}
use Rattle.plane_defs.specs.Planes.{gaggle_size}
use Rattle.plane_defs.specs.Marks.{depths_of}
use Rattle.plane_coder.specs.Views.{plane_in}
use Rattle.block_masks.proofs.Marking.{length-depths_of}
use Rattle.plane_coder.proofs.Collecting.{none_found, more_found, all_found}
use Rattle.plane_coder.proofs.collect.collect_gaggle.Goals as goal

pub loop-place-init : goal.loop-place-init
loop-place-init g c = none_found (plane_in c.args.view.now (depths_of c.args.marks.now)) g.row.WANTED (16 * c.args.g) _ c.clear.ensures c.clear-2.ensures
    c.clear-3.ensures

pub loop-place-preserved : goal.loop-place-preserved
loop-place-preserved g c =
    let p = plane_in c.args.view.now (depths_of c.args.marks.now) in
    more_found p g.row.WANTED (16 * c.args.g) c.loop-place.place c.loop-place.invariant c.collect_block.ensures

pub returns : goal.returns
returns g c =
    let p = plane_in c.args.view.now (depths_of c.args.marks.now) in
    let all : c.loop-place.place ≡ gaggle_size p c.args.g =
    omega (arith, c.min-place-end.ensures, c.loop-place-test.false, c.loop-place.auto.place-end, length-depths_of c.args.marks.now) in
    all_found p g.row.WANTED c.args.g c.loop-place.place _ all c.loop-place.invariant
