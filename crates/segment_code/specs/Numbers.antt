-- The numbers of a segment's blocks, 64 for each block (this project's own bounds; the weighted numbers of an image are
-- within them).
use Rattle.std.specs.Prelude.{◌≡◌, ◌<◌, ◌⊎◌, ℕ, ◌%◌, ◌^◌, ◌-◌, ℤ, pos, negsuc, List, length, slice_index_or, unsigned_abs}

-- each magnitude is below 2 ^ 27, except that a DC may be -2 ^ 27; `negsuc a` is -(a + 1)
pub record AreBounded (cells : List ℤ) : Type 0 where
  pub at : (i : ℕ) → i < length cells →
      (unsigned_abs (slice_index_or cells i (pos 0)) < 2 ^ 27) ⊎ ((i % 64 ≡ 0) × (slice_index_or cells i (pos 0) ≡ negsuc (2 ^ 27 - 1)))
