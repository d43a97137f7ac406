use Rattle.std.proofs.Common.{◌<◌, pos, get_or, length, arith, rules}
use mir.Val.{SFits}
use mir.Syntax.{w32}
use Rattle.std.proofs.lemmas.Result.{err_from_is_err_and}
use Rattle.bit_pipe.proofs.Putting.{adds_start, open_later}
use Rattle.bit_pipe.proofs.PuttingEach.{each_put_more, each_put_ended, each_put_whole}
use Rattle.number_defs.specs.DcPart.{dc_bit}
use Rattle.dc_depths.proofs.OneBit.{plane_bit}
use Rattle.dc_depths.proofs.dc.put_plane.Goals as goal

pub loop-dc-init : goal.loop-dc-init
loop-dc-init g c = record { is_open = c.requires.open; so_far = adds_start _ _ c.requires.open }

pub loop-dc-preserved : goal.loop-dc-preserved
loop-dc-preserved g c =
    let dcs = c.args.dcs.now in
    let at = c.loop-dc.dc-index in
    let lt : at < length dcs = omega arith in
    let fits : SFits w32 (get_or dcs at (pos 0)) = search rules in
    let e = plane_bit (get_or dcs at (pos 0)) c.args.plane fits in
    let i = c.loop-dc.invariant in
    let p = (rw e at c.in_ok-put.ensures).ends in
    record { is_open = open_later i.is_open p; so_far = each_put_more (dc_bit c.args.plane) dcs at (pos 0) lt i.so_far p }

pub returns-in_err-put : goal.returns-in_err-put
returns-in_err-put g c =
    let dcs = c.args.dcs.now in
    let at = c.loop-dc.dc-index in
    let lt : at < length dcs = omega arith in
    let fits : SFits w32 (get_or dcs at (pos 0)) = search rules in
    let e = plane_bit (get_or dcs at (pos 0)) c.args.plane fits in
    let p = err_from_is_err_and c.from_residual.result c.from_residual.ensures.1 in
    rw (p.1, p.2) (each_put_ended (dc_bit c.args.plane) dcs at (pos 0) lt c.loop-dc.invariant.so_far (rw e at c.in_err-put.ensures))

pub returns : goal.returns
returns g c = each_put_whole (dc_bit c.args.plane) c.args.dcs.now c.loop-dc.dc-index (omega arith) c.loop-dc.invariant.so_far
