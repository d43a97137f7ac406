use Rattle.std.proofs.Common.{◌≡◌}
use Rattle.wave_strip.specs.Strip.{rows_of, columns_of}
use Rattle.wave_tests.proofs.strips.finish_rows.Given as goal

abbrev pub invariant-loop : goal.invariant-loop
invariant-loop l = record {
  columns : columns_of l.strip ≡ columns_of l.initial.strip;
  pushed : l.pushed.columns ≡ l.initial.pushed.columns;
  rows : rows_of l.strip ≡ l.rows;
}
