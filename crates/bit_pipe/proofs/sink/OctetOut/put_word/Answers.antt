use Rattle.std.proofs.Common.{arith, refl}
use Rattle.bit_pipe.proofs.Giving.{puts_broke}
use Rattle.bit_pipe.proofs.OctetSteps.{number_start, number_more, number_broke, number_room, number_all, number_all_broke}
use Rattle.bit_pipe.proofs.sink.OctetOut.put_word.Goals as goal

pub loop-left-init : goal.loop-left-init
loop-left-init g c = record { within = omega arith; last = refl; so_far = number_start g.Self.OctetOut.sink _ _ _ (omega arith) }

pub put-requires : goal.put-requires
put-requires g c = let i = c.loop-left.invariant in number_room g.Self.OctetOut.sink 64 c.loop-left.left c.args.word (omega (arith, i.last)) i.within
    (omega (arith, c.requires)) i.so_far

pub loop-left-preserved : goal.loop-left-preserved
loop-left-preserved g c =
    let i = c.loop-left.invariant in
    record {
      within = omega arith;
      last = omega (arith, i.last);
      so_far = number_more g.Self.OctetOut.sink 64 c.loop-left.left c.args.word (omega (arith, i.last)) i.within i.so_far c.in_ok-put.ensures;
    }

pub returns-in_err-put : goal.returns-in_err-put
returns-in_err-put g c =
    let i = c.loop-left.invariant in
    puts_broke c.from_residual.result c.from_residual.ensures.0
    (number_all_broke g.Self.OctetOut.sink c.args.word (number_broke g.Self.OctetOut.sink 64 c.loop-left.left c.args.word (omega (arith, i.last))
    i.within i.last i.so_far c.in_err-put.ensures))

pub returns : goal.returns
returns g c = let i = c.loop-left.invariant in number_all g.Self.OctetOut.sink c.loop-left.left c.args.word (omega arith) i.so_far
