use Rattle.std.proofs.lemmas.Result.{err_from_is_err_and}
use Rattle.dc_depths.proofs.DcReads.{dc_alone}
use Rattle.dc_depths.proofs.dc_in.take_dc.Goals as goal

pub returns-in_err-part : goal.returns-in_err-part
returns-in_err-part g c =
    let plan = c.args.plan.now in
    let p = err_from_is_err_and c.from_residual.result c.from_residual.ensures.1 in
    rw (p.1, p.2) (dc_alone plan.depth_dc plan.depth_ac plan.shift _ c.in_err-part.ensures.takes)

pub returns : goal.returns
returns g c =
    let plan = c.args.plan.now in
    dc_alone plan.depth_dc plan.depth_ac plan.shift _ c.in_ok-part.ensures.takes
