use Rattle.std.proofs.Common.{◌≡◌}
use Rattle.inverse_strip.specs.Kept.{IsIdle}
use Rattle.inverse_strip.specs.Strip.{columns_of, height_of, next_of, taken_of}
use Rattle.wave_tests.proofs.inverses.Made.push_rows.Given as goal

abbrev pub invariant-loop-row : goal.invariant-loop-row
invariant-loop-row l = record {
  columns : columns_of l.strip ≡ columns_of l.initial.strip;
  height : height_of l.strip ≡ height_of l.initial.strip;
  taken : taken_of l.strip ≡ l.row;
  idle : IsIdle (taken_of l.strip) (next_of l.strip) (height_of l.strip);
}
