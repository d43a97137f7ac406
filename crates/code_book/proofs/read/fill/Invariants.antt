use Rattle.std.proofs.Common.{◌-◌}
use Rattle.code_book.specs.Filling.{FilledTo}
use Rattle.code_book.proofs.read.fill.Given as goal

abbrev pub invariant-loop-filled : goal.invariant-loop-filled
invariant-loop-filled g l = FilledTo (g.X.Port.outside l.initial.port) (g.X.Port.outside l.port) l.octets l.filled

abbrev pub decreases-loop-filled : goal.decreases-loop-filled
decreases-loop-filled g l = 138 - l.filled
