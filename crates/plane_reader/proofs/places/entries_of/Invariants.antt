use Rattle.std.proofs.Common.{ℕ, ◌≡◌, ◌<◌, ◌/◌, ◌^◌, slice_index_or, length}
use Rattle.plane_reader.specs.Places.{IsFirst, nothing_first}
use Rattle.plane_reader.proofs.places.entries_of.Given as goal

abbrev pub invariant-loop-octet : goal.invariant-loop-octet
invariant-loop-octet l = record {
  size : length l.entries ≡ 256;
  done : (window : ℕ) → window < 2 ^ 64 → window / 2 ^ 56 < l.octet → IsFirst l.words.book l.due l.option window (slice_index_or l.entries
      (window / 2 ^ 56) nothing_first);
}
