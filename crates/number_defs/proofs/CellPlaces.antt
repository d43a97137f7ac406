-- The places of the numbers of every `stride`-th cell.
use Rattle.std.proofs.Common.{◌≡◌, ℕ, ◌*◌, ◌<◌, ◌≤◌, ℤ, pos, List, length, get_or, map, ◌∙◌, arith, div-add-mod', mul-le-mul_left, mul-le-mul_right}
use Rattle.std.specs.Int.{div_ceil}
use Rattle.std.proofs.lemmas.List.{length-map, get_or-map}
use Rattle.std.proofs.lemmas.List.FromFn.{length-map-range_with_len, get_or-map-range_with_len}
use Rattle.std.proofs.lemmas.Bool.Decides.{nat_tests}
use Rattle.number_defs.specs.Cells.{cell_at, strided}

pub length-strided : (stride : ℕ) (cells : List ℤ) → length (strided stride cells) ≡ div_ceil (length cells) stride
unfolding strided
length-strided stride cells = length-map-range_with_len (cell_at stride cells) 0 (div_ceil (length cells) stride)

pub strided_at : (stride : ℕ) (cells : List ℤ) (m : ℕ) → m < div_ceil (length cells) stride → get_or (strided stride cells) m (pos 0) ≡ cell_at stride cells m
unfolding strided
strided_at stride cells m lt = get_or-map-range_with_len (cell_at stride cells) 0 (div_ceil (length cells) stride) m m (pos 0) lt (omega arith)

-- such a number is within the slice
pub place_within : (n stride m : ℕ) → 1 ≤ stride → m < div_ceil n stride → m * stride < n
place_within n stride m low lt = grind (arith, nat_tests, div-add-mod', mul-le-mul_right)

-- the image of each of them
module _ (f : ℤ → ℕ) (stride : ℕ) (cells : List ℤ) where
  pub made_length : length (map f (strided stride cells)) ≡ div_ceil (length cells) stride
  made_length = length-map (strided stride cells) f ∙ length-strided stride cells

  pub made_at : (m : ℕ) → m < length (map f (strided stride cells)) → get_or (map f (strided stride cells)) m 0 ≡ f (cell_at stride cells m)
  made_at m lt = grind (arith, nat_tests, made_length, get_or-map, length-strided, strided_at)

pub count_within : (n stride : ℕ) → 1 ≤ stride → div_ceil n stride ≤ n
count_within n stride low = grind (arith, nat_tests, div-add-mod', mul-le-mul_left)
