-- Numbers in every `stride`-th cell of a slice. (This project's own.)
use Rattle.std.specs.Prelude.{ℕ, ◌*◌, ◌<◌, ℤ, pos, List, length, map, slice_index_or, Bool}
use Rattle.std.specs.List.{range_with_len}
use Rattle.std.specs.Int.{int_shr, div_ceil}
use Rattle.number_defs.specs.Ranges.{IsInRange}

abbrev pub cell_at : ℕ → List ℤ → ℕ → ℤ
cell_at stride cells m = slice_index_or cells (m * stride) (pos 0)

unfoldable pub strided : ℕ → List ℤ → List ℤ
strided stride cells = map (cell_at stride cells) (range_with_len 0 (div_ceil (length cells) stride))

-- each of them over 2 ^ shift, rounded down, is in the range
pub record AreInRange (signed : Bool) (N shift stride : ℕ) (cells : List ℤ) : Type 0 where
  pub at : (m : ℕ) → m * stride < length cells → IsInRange signed N (int_shr (cell_at stride cells m) shift)
