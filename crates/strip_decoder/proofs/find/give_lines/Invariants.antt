use Rattle.std.proofs.Common.{◌-◌}
use Rattle.strip_decoder.proofs.LinesGiven.{AreGiven}
use Rattle.strip_decoder.proofs.find.give_lines.Given as goal

abbrev pub invariant-loop-range : goal.invariant-loop-range
invariant-loop-range g l = AreGiven l.damage (g.X.Port.outside l.initial.port) (g.X.Port.outside l.port) l.from

abbrev pub decreases-loop-range : goal.decreases-loop-range
decreases-loop-range g l = l.damage.rows - l.from
