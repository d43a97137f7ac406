use Rattle.std.proofs.Common.{◌<◌, ◌∙◌, ap, sym, pos, get_or, length, arith, nat_abs}
use Rattle.std.proofs.lemmas.Result.{err_from_is_err_and}
use Rattle.std.proofs.lemmas.List.{length-map, get_or-map}
use Rattle.item_defs.specs.Bits.{bits_of}
use Rattle.item_defs.specs.Items.{raw}
use Rattle.bit_pipe.proofs.Putting.{adds_start, open_later}
use Rattle.bit_pipe.proofs.PuttingEach.{each_put_more, each_put_ended, each_put_whole}
use Rattle.dc_depths.specs.Marks.{depths_of}
use Rattle.dc_depths.proofs.OneBit.{depth_bit}
use Rattle.dc_depths.proofs.depths.put_raw.Goals as goal

pub loop-mark-init : goal.loop-mark-init
loop-mark-init g c = record { is_open = c.requires.open; so_far = adds_start _ _ c.requires.open }

pub loop-mark-preserved : goal.loop-mark-preserved
loop-mark-preserved g c =
    let marks = c.args.marks.now in
    let at = c.loop-mark.mark-index in
    let lt : at < length marks = omega arith in
    let within : at < length (depths_of marks) = omega (arith, length-map marks nat_abs) in
    let e = depth_bit (get_or marks at (pos 0)) (c.requires.depths.low at lt) (c.requires.depths.high at lt)
    ∙ ap (bits_of 1) (sym (get_or-map nat_abs marks at (pos 0) 0 lt)) in
    let i = c.loop-mark.invariant in
    let p = (rw e at c.in_ok-put.ensures).ends in
    record { is_open = open_later i.is_open p; so_far = each_put_more raw (depths_of marks) at 0 within i.so_far p }

pub returns-in_err-put : goal.returns-in_err-put
returns-in_err-put g c =
    let marks = c.args.marks.now in
    let at = c.loop-mark.mark-index in
    let lt : at < length marks = omega arith in
    let within : at < length (depths_of marks) = omega (arith, length-map marks nat_abs) in
    let e = depth_bit (get_or marks at (pos 0)) (c.requires.depths.low at lt) (c.requires.depths.high at lt)
    ∙ ap (bits_of 1) (sym (get_or-map nat_abs marks at (pos 0) 0 lt)) in
    let p = err_from_is_err_and c.from_residual.result c.from_residual.ensures.1 in
    rw (p.1, p.2) (each_put_ended raw (depths_of marks) at 0 within c.loop-mark.invariant.so_far (rw e at c.in_err-put.ensures))

pub returns : goal.returns
returns g c = each_put_whole raw (depths_of c.args.marks.now) c.loop-mark.mark-index (omega (arith, length-map c.args.marks.now nat_abs))
    c.loop-mark.invariant.so_far
