use Rattle.wave_defs.specs.Held.{Agrees, signal}
use Rattle.lift_rows.specs.Halves.{evens, odds}
use Rattle.lift_rows.proofs.back_halves.interleave.Given as goal

abbrev pub invariant-loop-j : goal.invariant-loop-j
invariant-loop-j l = record {
  even : Agrees l.j (evens (signal l.row)) (signal l.even);
  odd : Agrees l.j (odds (signal l.row)) (signal l.odd);
}
