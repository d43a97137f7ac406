use Rattle.std.proofs.Common.{◌+◌, ◌-◌, if◌then◌else◌}
use Rattle.space_packets.specs.PacketReads.{TakenSoFar}
use Rattle.space_packets.proofs.packet_reader.PacketReader.fill.Given as goal

abbrev pub invariant-loop-self : goal.invariant-loop-self
invariant-loop-self g l = TakenSoFar (g.X.Port.outside l.fn.port) (g.X.Port.outside l.port) l.fn.self l.self

abbrev pub decreases-loop-self : goal.decreases-loop-self
decreases-loop-self g l = (l.self.cap - l.self.taken) + (if l.self.ended then 0 else 1)
