use Rattle.std.proofs.Common.{arith}
use Rattle.std.proofs.lemmas.Result.{err_from_is_err_and}
use Rattle.bit_pipe.proofs.Putting.{adds_start, open_later}
use Rattle.gaggle_codes.specs.GaggleBits.{unary_bits}
use Rattle.gaggle_codes.proofs.Listing.{each_more, each_ended, each_whole}
use Rattle.gaggle_codes.proofs.values.put_unary_parts.Goals as goal

pub loop-value-init : goal.loop-value-init
loop-value-init g c = record { is_open = c.requires.open; so_far = adds_start _ _ c.requires.open }

pub loop-value-preserved : goal.loop-value-preserved
loop-value-preserved g c =
    let i = c.loop-value.invariant in
    let p = c.in_ok-put_unary.ensures.ends in
    record { is_open = open_later i.is_open p; so_far = each_more (unary_bits c.args.k) c.args.values.now c.loop-value.value-index 0 (omega arith) i.so_far p }

pub returns-in_err-put_unary : goal.returns-in_err-put_unary
returns-in_err-put_unary g c =
    let p = err_from_is_err_and c.from_residual.result c.from_residual.ensures.1 in
    rw (p.1, p.2) (each_ended (unary_bits c.args.k) c.args.values.now c.loop-value.value-index 0 (omega arith) c.loop-value.invariant.so_far
    c.in_err-put_unary.ensures)

pub returns : goal.returns
returns g c = each_whole (unary_bits c.args.k) c.args.values.now c.loop-value.value-index (omega arith) c.loop-value.invariant.so_far
