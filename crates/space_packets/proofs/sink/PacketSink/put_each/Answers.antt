use Rattle.std.proofs.Common.{arith, refl}
use Rattle.std.proofs.lemmas.Grind.{common_steps}
use Rattle.bit_pipe.proofs.Giving.{puts_broke}
use Rattle.bit_pipe.proofs.OctetSteps.{number_start, number_more, number_broke, number_room, number_all, number_all_broke}
use Rattle.space_packets.specs.PacketSink.{packet_sink}
use Rattle.space_packets.proofs.sink.PacketSink.put_each.Goals as goal

pub loop-left-init : goal.loop-left-init
loop-left-init g c = record { within = omega arith; last = refl; so_far = number_start (packet_sink g.X.Port.outside) _ _ _ (omega arith) }

pub put-requires : goal.put-requires
put-requires g c = let i = c.loop-left.invariant in number_room (packet_sink g.X.Port.outside) 64 c.loop-left.left c.args.word (omega (arith, i.last))
    i.within (omega (arith, c.requires)) i.so_far

pub loop-left-preserved : goal.loop-left-preserved
loop-left-preserved g c = grind (arith, common_steps, number_more)

pub returns-in_err-put : goal.returns-in_err-put
returns-in_err-put g c =
    let i = c.loop-left.invariant in
    puts_broke c.from_residual.result c.from_residual.ensures.0
    (number_all_broke (packet_sink g.X.Port.outside) c.args.word (number_broke (packet_sink g.X.Port.outside) 64 c.loop-left.left c.args.word
    (omega (arith, i.last)) i.within i.last i.so_far c.in_err-put.ensures))

pub returns : goal.returns
returns g c = let i = c.loop-left.invariant in number_all (packet_sink g.X.Port.outside) c.loop-left.left c.args.word (omega arith) i.so_far
