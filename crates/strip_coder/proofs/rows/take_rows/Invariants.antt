use Rattle.strip_coder.specs.RowsIn.{HasArrived}
use Rattle.strip_coder.proofs.rows.take_rows.Given as goal

abbrev pub invariant-loop : goal.invariant-loop
invariant-loop g l = HasArrived l.setting l.counter (g.X.Port.outside l.initial.port) (g.X.Port.outside l.port) l.work
