use Rattle.std.proofs.Common.{◌≡◌, ◌*◌, ◌-◌}
use Rattle.inverse_strip.specs.Strip.{columns_of, height_of, next_of, taken_of}
use Rattle.wave_tests.proofs.inverses.Made.take_rows.Given as goal

abbrev pub invariant-loop-self : goal.invariant-loop-self
invariant-loop-self l = record {
  columns : columns_of l.strip ≡ columns_of l.initial.strip;
  height : height_of l.strip ≡ height_of l.initial.strip;
  taken : taken_of l.strip ≡ taken_of l.initial.strip;
}

-- the number of rows that may still be made
abbrev pub decreases-loop-self : goal.decreases-loop-self
decreases-loop-self l = 8 * taken_of l.strip - next_of l.strip
