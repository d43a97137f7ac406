use Rattle.std.proofs.Common.{ℕ, ◌≡◌, ◌≤◌, ◌<◌, ◌+◌, ◌*◌, max, count_ones, length, slice_index_or, [], vec_len, vec_capacity}
use Rattle.plane_reader.specs.Places.{AreEntries}
use Rattle.plane_reader.proofs.places.tables_of.Given as goal

abbrev pub invariant-loop-table : goal.invariant-loop-table
invariant-loop-table l = record {
  room : 64 ≤ vec_capacity l.tables;
  len : vec_len l.tables ≡ l.table;
  size : length l.tables.items ≡ l.table;
  done : (due option : ℕ) → 4 * due + option < l.table → option < max 1 (count_ones due) → AreEntries l.words.book due option (slice_index_or l.tables.items
      (4 * due + option) []);
}
