use Rattle.std.proofs.Common.{◌+◌, ◌-◌, length}
use Rattle.packet_assembly.proofs.Filling.{Filled}
use Rattle.packet_assembly.proofs.assembly.Assembly.fill_text.Given as goal

abbrev pub invariant-loop-self : goal.invariant-loop-self
invariant-loop-self g l = Filled (g.X.Port.outside l.fn.port) (g.X.Port.outside l.port) l.fn.self l.self

abbrev pub decreases-loop-self : goal.decreases-loop-self
decreases-loop-self g l = (l.self.intake.cap - l.self.intake.taken) + length l.self.intake.pending
