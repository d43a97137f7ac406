use Rattle.wave_defs.specs.Held.{Agrees, signal}
use Rattle.wave_plain.proofs.samples.widen.Given as goal

abbrev pub invariant-loop-j : goal.invariant-loop-j
invariant-loop-j l = Agrees l.j (signal l.to) (signal l.from)
