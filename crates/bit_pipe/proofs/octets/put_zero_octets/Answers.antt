use Rattle.std.proofs.Common.{arith}
use Rattle.bit_pipe.proofs.Giving.{puts_broke}
use Rattle.bit_pipe.proofs.OctetSteps.{zeros_start, zeros_more, zeros_broke, zeros_room}
use Rattle.bit_pipe.proofs.octets.put_zero_octets.Goals as goal

pub loop-init : goal.loop-init
loop-init g c = zeros_start g.O.OctetOut.sink _

pub put-requires : goal.put-requires
put-requires g c = zeros_room g.O.OctetOut.sink c.loop.counter c.args.count (omega arith) c.requires.room c.loop.invariant

pub loop-preserved : goal.loop-preserved
loop-preserved g c = zeros_more g.O.OctetOut.sink c.loop.counter c.loop.invariant c.in_ok-put.ensures

pub returns-in_err-put : goal.returns-in_err-put
returns-in_err-put g c = puts_broke c.from_residual.result c.from_residual.ensures.0
    (zeros_broke g.O.OctetOut.sink c.loop.counter c.args.count (omega arith) c.loop.invariant c.in_err-put.ensures)
