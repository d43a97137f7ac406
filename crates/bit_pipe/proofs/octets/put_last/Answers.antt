use Rattle.std.proofs.Common.{arith, refl}
use Rattle.bit_pipe.proofs.Giving.{puts_broke}
use Rattle.bit_pipe.proofs.OctetSteps.{last_none, last_gave, last_broke}
use Rattle.bit_pipe.proofs.octets.put_last.Goals as goal

pub returns-then-filled-eq0 : goal.returns-then-filled-eq0
returns-then-filled-eq0 g c = last_none g.O.OctetOut.sink _ c.args.filled c.args.pending (omega arith)

pub returns-in_err-put : goal.returns-in_err-put
returns-in_err-put g c =
    puts_broke c.from_residual.result c.from_residual.ensures.0 (last_broke g.O.OctetOut.sink c.args.filled c.args.pending _ (omega arith) c.requires.filled
    c.requires.fits refl c.in_err-put.ensures)

pub returns : goal.returns
returns g c = last_gave g.O.OctetOut.sink c.args.filled c.args.pending _ (omega arith) c.requires.filled c.requires.fits refl c.in_ok-put.ensures
