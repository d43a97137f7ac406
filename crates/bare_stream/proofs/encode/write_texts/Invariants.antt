use Rattle.bare_stream.specs.RowsIn.{HasArrived}
use Rattle.bare_stream.proofs.encode.write_texts.Given as goal

abbrev pub invariant-loop-row : goal.invariant-loop-row
invariant-loop-row g l = HasArrived l.setting l.row (g.X.Port.outside l.initial.port) (g.X.Port.outside l.port) l.work
