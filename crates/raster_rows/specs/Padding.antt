-- A row that is extended by its last pixel. After CCSDS 122.0-B-2, padding of the image.
use Rattle.std.specs.Prelude.{◌≡◌, ◌<◌, ◌-◌, ℕ, ℤ, pos, List, length, min, slice_index_or}

-- each number is the one at its place, or after this width the one at the last place before it
pub record IsPadded (width : ℕ) (before after : List ℤ) : Type 0 where
  pub each : (k : ℕ) → k < length after → slice_index_or after k (pos 0) ≡ slice_index_or before (min k (width - 1)) (pos 0)
  pub same : length after ≡ length before
