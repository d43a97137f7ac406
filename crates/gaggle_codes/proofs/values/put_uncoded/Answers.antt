use Rattle.std.proofs.Common.{arith}
use Rattle.std.proofs.lemmas.Result.{err_from_is_err_and}
use Rattle.item_defs.specs.Bits.{bits_of}
use Rattle.bit_pipe.proofs.Putting.{adds_start, open_later}
use Rattle.gaggle_codes.proofs.Listing.{each_more, each_ended, each_whole}
use Rattle.gaggle_codes.proofs.values.put_uncoded.Goals as goal
use Rattle.std.proofs.lemmas.Grind.{common_steps}

pub loop-value-init : goal.loop-value-init
loop-value-init g c = record { is_open = c.requires.open; so_far = adds_start _ _ c.requires.open }

pub loop-value-preserved : goal.loop-value-preserved
loop-value-preserved g c = grind (arith, common_steps, open_later, each_more)

pub returns-in_err-put_bits : goal.returns-in_err-put_bits
returns-in_err-put_bits g c =
    let p = err_from_is_err_and c.from_residual.result c.from_residual.ensures.1 in
    rw (p.1, p.2) (each_ended (bits_of c.args.bits) c.args.values.now c.loop-value.value-index 0 (omega arith) c.loop-value.invariant.so_far
    c.in_err-put_bits.ensures)

pub returns : goal.returns
returns g c = each_whole (bits_of c.args.bits) c.args.values.now c.loop-value.value-index (omega arith) c.loop-value.invariant.so_far
