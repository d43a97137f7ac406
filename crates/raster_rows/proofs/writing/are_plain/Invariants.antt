use Rattle.std.proofs.Common.{ℕ, pos, ◌<◌, ◌≤◌, get_or, w64, of_z, SFits}
use Rattle.raster_rows.proofs.writing.are_plain.Given as goal

abbrev pub invariant-loop-value : goal.invariant-loop-value
invariant-loop-value l = (k : ℕ) → k < l.value-index → SFits w64 (get_or l.values k (pos 0)) × (of_z w64 (get_or l.values k (pos 0)) ≤ l.bits)
