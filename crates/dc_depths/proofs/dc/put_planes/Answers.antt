use Rattle.std.proofs.Common.{◌≤◌, ◌<◌, ◌-◌, arith}
use Rattle.std.proofs.lemmas.Result.{err_from_is_err_and}
use Rattle.bit_pipe.proofs.Putting.{open_later}
use Rattle.number_defs.specs.DcPart.{dc_q, dc_planes}
use Rattle.number_defs.proofs.DcBits.{q_small}
use Rattle.dc_depths.proofs.Planes.{plane_none, plane_more, plane_ended, planes_all}
use Rattle.dc_depths.proofs.dc.put_planes.Goals as goal
use Rattle.std.proofs.lemmas.Grind.{common_steps}

pub loop-plane-init : goal.loop-plane-init
loop-plane-init g c = grind (arith, common_steps, plane_none)

pub put_plane-requires : goal.put_plane-requires
put_plane-requires g c = grind (arith, common_steps, q_small)

pub loop-plane-preserved : goal.loop-plane-preserved
loop-plane-preserved g c =
    let plan = c.args.plan.now in
    let q = dc_q plan.depth_dc plan.depth_ac plan.shift in
    let plane = c.loop-plane.plane in
    let i = c.loop-plane.invariant in
    let within : plane ≤ q = i.within in
    let test : c.max-last.result < plane = c.loop-plane-test.true in
    let p = c.in_ok-put_plane.ensures.ends in
    record {
      within = omega arith;
      more = omega arith;
      is_open = open_later i.is_open p;
      so_far = plane_more q c.args.dcs.now (q - plane) (q - (plane - 1)) (plane - 1) (omega arith) (omega arith) i.so_far p;
    }

pub returns-in_err-put_plane : goal.returns-in_err-put_plane
returns-in_err-put_plane g c =
    let plan = c.args.plan.now in
    let q = dc_q plan.depth_dc plan.depth_ac plan.shift in
    let plane = c.loop-plane.plane in
    let i = c.loop-plane.invariant in
    let within : plane ≤ q = i.within in
    let test : c.max-last.result < plane = c.loop-plane-test.true in
    let p = err_from_is_err_and c.from_residual.result c.from_residual.ensures.1 in
    let last = c.max-last.ensures in
    rw (p.1, p.2) (plane_ended q c.args.dcs.now (dc_planes plan.depth_dc plan.depth_ac plan.shift) (q - plane) (plane - 1) (omega (arith, last))
    (omega arith) i.so_far c.in_err-put_plane.ensures)

pub returns : goal.returns
returns g c = grind (arith, common_steps, planes_all)
