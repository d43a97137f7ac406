use Rattle.std.proofs.Common.{arith, ◌≡◌, ◌*◌, ◌%◌, ◌^◌}
use Rattle.std.proofs.lemmas.Nat.{one_shl}
use Rattle.std.proofs.lemmas.Result.{err_from_is_err_and}
use Rattle.bit_pipe.proofs.Putting.{adds_start, open_later}
use Rattle.gaggle_codes.specs.GaggleBits.{rest_bits}
use Rattle.gaggle_codes.proofs.Listing.{each_more, each_ended, each_whole}
use Rattle.gaggle_codes.proofs.values.put_rests.Goals as goal

pub loop-value-init : goal.loop-value-init
loop-value-init g c = record { is_open = c.requires.open; so_far = adds_start _ _ c.requires.open }

pub loop-value-preserved : goal.loop-value-preserved
loop-value-preserved g c =
    let i = c.loop-value.invariant in
    let p = (rw (one_shl c.args.k 16 (omega (arith, c.requires.k))) at c.in_ok-put_bits.ensures).ends in
    record { is_open = open_later i.is_open p; so_far = each_more (rest_bits c.args.k) c.args.values.now c.loop-value.value-index 0 (omega arith) i.so_far p }

pub returns-in_err-put_bits : goal.returns-in_err-put_bits
returns-in_err-put_bits g c =
    let p = err_from_is_err_and c.from_residual.result c.from_residual.ensures.1 in
    let e : (1 * 2 ^ c.args.k) % 65536 ≡ 2 ^ c.args.k = one_shl c.args.k 16 (omega (arith, c.requires.k)) in
    rw (p.1, p.2) (each_ended (rest_bits c.args.k) c.args.values.now c.loop-value.value-index 0 (omega arith) c.loop-value.invariant.so_far
    (rw e at c.in_err-put_bits.ensures))

pub returns : goal.returns
returns g c = each_whole (rest_bits c.args.k) c.args.values.now c.loop-value.value-index (omega arith) c.loop-value.invariant.so_far
