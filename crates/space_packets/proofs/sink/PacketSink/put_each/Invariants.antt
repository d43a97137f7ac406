use Rattle.std.proofs.Common.{◌≡◌, ◌-◌, ◌/◌, ◌%◌, ◌^◌, ◌≤◌}
use Rattle.item_defs.specs.Bits.{bits_of}
use Rattle.bit_pipe.specs.Sinks.{GaveBits}
use Rattle.space_packets.specs.PacketSink.{packet_sink}
use Rattle.space_packets.proofs.sink.PacketSink.put_each.Given as goal

abbrev pub invariant-loop-left : goal.invariant-loop-left
invariant-loop-left g l = record {
  within : l.left ≤ 64;
  last : l.left % 8 ≡ 64 % 8;
  so_far : GaveBits (packet_sink g.X.Port.outside) l.initial.self l.self (bits_of (64 - l.left) (l.word / 2 ^ l.left));
}

abbrev pub decreases-loop-left : goal.decreases-loop-left
decreases-loop-left g l = l.left
