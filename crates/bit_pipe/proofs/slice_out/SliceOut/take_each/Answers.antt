use Rattle.std.proofs.Common.{arith, refl}
use Rattle.bit_pipe.specs.Slices.{slice_sink}
use Rattle.bit_pipe.proofs.Giving.{puts_broke}
use Rattle.bit_pipe.proofs.OctetSteps.{number_start, number_more, number_broke, number_all, number_all_broke}
use Rattle.bit_pipe.proofs.slice_out.SliceOut.take_each.Goals as goal

pub loop-left-init : goal.loop-left-init
loop-left-init c = record { within = omega arith; last = refl; so_far = number_start slice_sink _ _ _ (omega arith) }

pub loop-left-preserved : goal.loop-left-preserved
loop-left-preserved c =
    let i = c.loop-left.invariant in
    record {
      within = omega arith;
      last = omega (arith, i.last);
      so_far = number_more slice_sink 64 c.loop-left.left c.args.word (omega (arith, i.last)) i.within i.so_far c.in_ok-take.ensures;
    }

pub returns-in_err-take : goal.returns-in_err-take
returns-in_err-take c =
    let i = c.loop-left.invariant in
    puts_broke c.from_residual.result c.from_residual.ensures.0
    (number_all_broke slice_sink c.args.word (number_broke slice_sink 64 c.loop-left.left c.args.word (omega (arith, i.last)) i.within i.last i.so_far
    c.in_err-take.ensures))

pub returns : goal.returns
returns c = let i = c.loop-left.invariant in number_all slice_sink c.loop-left.left c.args.word (omega arith) i.so_far
