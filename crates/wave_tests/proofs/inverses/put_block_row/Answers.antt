use Rattle.inverse_strip.specs.Strip.{Keeps-itself, Keeps-on}
use Rattle.wave_tests.proofs.inverses.put_block_row.Goals.{in-Some, in_default}
use Rattle.wave_tests.proofs.inverses.put_block_row.Goals as goal

pub returns-then-eq : goal.returns-then-eq
returns-then-eq c = Keeps-itself _

pub loop-column-preserved : goal.loop-column-preserved
loop-column-preserved c =
    elim c.match-get.branch [
      | in-Some w ↦ rw w.strip-is (Keeps-on _ _ _ c.loop-column.invariant w.put_block.ensures)
      | in_default w ↦ rw w.strip-is c.loop-column.invariant
    ]
