use Rattle.std.proofs.Common.{◌≡◌, ◌<◌, ℕ, pos, slice_index_or}
use Rattle.raster_rows.proofs.padding.pad_row.Given as goal

abbrev pub invariant-loop-pixel : goal.invariant-loop-pixel
invariant-loop-pixel l = (k : ℕ) → k < l.pixel-index → slice_index_or l.pixel-items k (pos 0) ≡ l.last
