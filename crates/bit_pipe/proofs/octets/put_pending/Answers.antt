use Rattle.std.proofs.Common.{arith}
use Rattle.bit_pipe.proofs.Giving.{puts_broke}
use Rattle.bit_pipe.proofs.OctetSteps.{pending_fits, pending_room, pending_broke, pending_puts}
use Rattle.bit_pipe.proofs.octets.put_pending.Goals as goal

pub put_last-requires : goal.put_last-requires
put_last-requires g c = record {
  filled = omega arith;
  fits = pending_fits c.args.filled c.args.pending;
  room = pending_room g.O.OctetOut.sink c.args.filled c.args.pending c.requires.room c.in_ok-put_octets.ensures;
}

pub returns-in_err-put_octets : goal.returns-in_err-put_octets
returns-in_err-put_octets g c =
    puts_broke c.from_residual.result c.from_residual.ensures.0 (pending_broke g.O.OctetOut.sink c.args.filled c.args.pending c.in_err-put_octets.ensures)

pub returns : goal.returns
returns g c = pending_puts g.O.OctetOut.sink c.put_last.new.out c.args.filled c.args.pending c.put_last.result c.in_ok-put_octets.ensures c.put_last.ensures
