-- Block depths as they are in the states of blocks. (This project's own.)
use Rattle.std.specs.Prelude.{◌<◌, ℕ, ℤ, pos, ◌≤ℤ◌, List, length, map, nat_abs, slice_index_or}

abbrev pub depths_of : List ℤ → List ℕ
depths_of marks = map nat_abs marks

-- each state is a depth of at most `most`
pub record AreDepths (most : ℕ) (marks : List ℤ) : Type 0 where
  pub low : (i : ℕ) → i < length marks → pos 0 ≤ℤ slice_index_or marks i (pos 0)
  pub high : (i : ℕ) → i < length marks → slice_index_or marks i (pos 0) ≤ℤ pos most
