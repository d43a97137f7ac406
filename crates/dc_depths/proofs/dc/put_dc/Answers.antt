use Rattle.std.proofs.lemmas.Result.{err_from_is_err_and}
use Rattle.number_defs.specs.DcPart.{dc_choices}
use Rattle.gaggle_codes.specs.Options.{choice_of}
use Rattle.dc_depths.proofs.Parts.{high_cut, dc_then}
use Rattle.dc_depths.proofs.dc.put_dc.Goals as goal
use Rattle.std.proofs.Common.{arith}
use Rattle.std.proofs.lemmas.Grind.{common_steps}

pub returns-in_err-put_high : goal.returns-in_err-put_high
returns-in_err-put_high g c =
    let plan = c.args.plan.now in
    let dcs = c.args.dcs.now in
    let p = err_from_is_err_and c.from_residual.result c.from_residual.ensures.1 in
    rw (p.1, p.2) (high_cut plan.depth_dc plan.depth_ac plan.shift dcs (dc_choices (choice_of c.args.select) plan.depth_dc plan.depth_ac plan.shift dcs)
    c.in_err-put_high.ensures)

pub returns : goal.returns
returns g c = grind (arith, common_steps, dc_then)
