use Rattle.inverse_strip.specs.Strip.{Keeps}
use Rattle.wave_tests.proofs.inverses.put_block.Given as goal

abbrev pub invariant-loop-position : goal.invariant-loop-position
invariant-loop-position l = Keeps l.initial.strip l.strip
