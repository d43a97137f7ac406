use Rattle.inverse_strip.specs.Strip.{Keeps}
use Rattle.wave_tests.proofs.inverses.put_block_row.Given as goal

abbrev pub invariant-loop-column : goal.invariant-loop-column
invariant-loop-column l = Keeps l.initial.strip l.strip
