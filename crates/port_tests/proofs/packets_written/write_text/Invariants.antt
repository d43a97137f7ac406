use Rattle.std.proofs.Common.{◌≡◌, length, take}
use Rattle.packet_defs.specs.Packets.{part_size}
use Rattle.space_packets.specs.Stages.{given_in}
use Rattle.space_packets.specs.Sink.{Gave}
use Rattle.port_tests.proofs.packets_written.write_text.Given as goal

abbrev pub invariant-loop-octet : goal.invariant-loop-octet
invariant-loop-octet g l = record {
  gave : Gave g.X.Port.outside l.initial.sink l.sink (take l.octet-index l.text);
  given : given_in l.sink.packets.now.stage (part_size l.sink.packets.now.packet) (length l.sink.packets.now.pending) ≡ l.octet-index;
}
