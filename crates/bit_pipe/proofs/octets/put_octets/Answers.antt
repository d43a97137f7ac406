use Rattle.std.proofs.Common.{arith, refl}
use Rattle.bit_pipe.proofs.Giving.{puts_broke}
use Rattle.bit_pipe.proofs.OctetSteps.{number_start, number_more, number_broke, number_room}
use Rattle.bit_pipe.proofs.octets.put_octets.Goals as goal

pub loop-left-init : goal.loop-left-init
loop-left-init g c = record { within = omega arith; last = refl; so_far = number_start g.O.OctetOut.sink _ _ _ (omega arith) }

pub put-requires : goal.put-requires
put-requires g c = let i = c.loop-left.invariant in number_room g.O.OctetOut.sink c.args.count c.loop-left.left c.args.bits (omega arith) i.within
    c.requires.room i.so_far

pub loop-left-preserved : goal.loop-left-preserved
loop-left-preserved g c =
    let i = c.loop-left.invariant in
    record {
      within = omega arith;
      last = omega (arith, i.last);
      so_far = number_more g.O.OctetOut.sink c.args.count c.loop-left.left c.args.bits (omega arith) i.within i.so_far c.in_ok-put.ensures;
    }

pub returns-in_err-put : goal.returns-in_err-put
returns-in_err-put g c =
    let i = c.loop-left.invariant in
    puts_broke c.from_residual.result c.from_residual.ensures.0 (number_broke g.O.OctetOut.sink c.args.count c.loop-left.left c.args.bits (omega arith)
    i.within i.last i.so_far c.in_err-put.ensures)
