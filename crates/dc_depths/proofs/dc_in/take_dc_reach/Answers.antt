use Rattle.std.specs.Int.{div_ceil}
use Rattle.std.proofs.Common.{ap, arith}
use Rattle.std.proofs.lemmas.Result.{err_from_is_err_and}
use Rattle.bit_pipe.proofs.ScriptReading.{in_read}
use Rattle.dc_depths.proofs.DcReads.{dc_fault, dc_cut, dc_high, dc_then, less_room}
use Rattle.dc_depths.proofs.dc_in.take_dc_reach.Goals as goal

pub returns-in_err-part-clause-takes : goal.returns-in_err-part-clause-takes
returns-in_err-part-clause-takes g c =
    let plan = c.args.plan.now in
    let p = err_from_is_err_and c.from_residual.result c.from_residual.ensures.1 in
    rw (p.1, p.2) (dc_fault plan.depth_dc plan.depth_ac plan.shift _ c.in_err-part.ensures.takes)

pub returns-in_default-clause-takes : goal.returns-in_default-clause-takes
returns-in_default-clause-takes g c =
    let plan = c.args.plan.now in
    dc_cut plan.depth_dc plan.depth_ac plan.shift _ (rw c.in_default.is at c.in_ok-part.ensures.takes)

pub take_dc_planes-requires-clause-open : goal.take_dc_planes-requires-clause-open
take_dc_planes-requires-clause-open g c = in_read c.requires.open (rw c.in-Whole.is at c.in_ok-part.ensures.takes).read

pub take_dc_planes-requires-clause-few : goal.take_dc_planes-requires-clause-few
take_dc_planes-requires-clause-few g c =
    let same = ap (λ n. div_ceil n 64) (rw c.in-Whole.is at c.in_ok-part.ensures.takes).cells.size in
    omega (arith, same, c.requires.few)

pub returns-clause-takes : goal.returns-clause-takes
returns-clause-takes g c =
    let plan = c.args.plan.now in
    let t = rw c.in-Whole.is at c.in_ok-part.ensures.takes in
    dc_then plan.depth_dc plan.depth_ac plan.shift _ t
    (c.take_dc_planes.ensures.takes t.given c.args.blocks.now t.cells (dc_high plan.depth_dc plan.depth_ac plan.shift _ t))

pub returns-in_err-part-clause-room : goal.returns-in_err-part-clause-room
returns-in_err-part-clause-room g c = less_room c.in_err-part.ensures.room

pub returns-in_default-clause-room : goal.returns-in_default-clause-room
returns-in_default-clause-room g c = less_room c.in_ok-part.ensures.room

pub returns-clause-room : goal.returns-clause-room
returns-clause-room g c = c.take_dc_planes.ensures.room
