use Rattle.std.proofs.Common.{arith}
use Rattle.std.proofs.lemmas.Result.{err_from_is_err_and}
use Rattle.bit_pipe.proofs.Putting.{open_later}
use Rattle.bit_pipe.proofs.ZeroSteps.{zeros_begin, zeros_go_on, zeros_end, zeros_whole}
use Rattle.bit_pipe.proofs.bit_out.BitOut.put_zeros.Goals as goal

pub loop-left-init : goal.loop-left-init
loop-left-init g c = record { within = omega arith; is_open = c.requires; so_far = zeros_begin c.args.count c.args.count _ _ c.requires (omega arith) }

pub loop-left-preserved : goal.loop-left-preserved
loop-left-preserved g c =
    let i = c.loop-left.invariant in
    let h = c.in_ok-put_bits.ensures in
    record {
      within = omega arith;
      is_open = open_later i.is_open h.ends;
      so_far = zeros_go_on c.args.count c.loop-left.left 32 (omega arith) i.within i.so_far h.ends;
    }

pub returns-in_err-put_bits : goal.returns-in_err-put_bits
returns-in_err-put_bits g c =
    let i = c.loop-left.invariant in
    let p = err_from_is_err_and c.from_residual.result c.from_residual.ensures.1 in
    rw (p.1, p.2) (zeros_end c.args.count c.loop-left.left 32 (omega arith) i.within i.so_far c.in_err-put_bits.ensures)

pub returns : goal.returns
returns g c =
    let i = c.loop-left.invariant in
    zeros_whole c.args.count c.loop-left.left i.within i.so_far c.put_bits-2.ensures
