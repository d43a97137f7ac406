use Rattle.wave_defs.specs.Held.{Agrees, signal}
use Rattle.lift_rows.specs.Halves.{evens, odds}
use Rattle.lift_rows.proofs.halves.split.Given as goal

abbrev pub invariant-loop-j : goal.invariant-loop-j
invariant-loop-j l = record {
  even : Agrees l.j (signal l.even) (evens (signal l.row));
  odd : Agrees l.j (signal l.odd) (odds (signal l.row));
}
