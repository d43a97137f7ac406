use Rattle.std.proofs.Common.{◌≡◌, false}
use Rattle.wave_strip.specs.Strip.{rows_of, columns_of, has_ended}
use Rattle.wave_tests.proofs.strips.push_rows.Given as goal

abbrev pub invariant-loop-row : goal.invariant-loop-row
invariant-loop-row l = record {
  columns : columns_of l.strip ≡ columns_of l.initial.strip;
  pushed : l.pushed.columns ≡ l.initial.pushed.columns;
  rows : rows_of l.strip ≡ l.row;
  running : has_ended l.strip ≡ false;
}
