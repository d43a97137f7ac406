use Rattle.std.proofs.Common.{◌+◌, ◌-◌, length}
use Rattle.packet_assembly.proofs.Seeking.{Sought}
use Rattle.packet_assembly.proofs.assembly.Assembly.find_segment.Given as goal

abbrev pub invariant-loop-passed : goal.invariant-loop-passed
invariant-loop-passed g l = Sought (g.X.Port.outside l.fn.port) (g.X.Port.outside l.port) l.fn.self l.self

abbrev pub decreases-loop-passed : goal.decreases-loop-passed
decreases-loop-passed g l = (l.self.intake.cap - l.self.intake.taken) + length l.self.intake.pending
