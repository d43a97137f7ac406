-- Bounds of the padded sizes and of the segments.
use Rattle.std.proofs.Common.{◌≡◌, ℕ, ◌+◌, ◌*◌, ◌^◌, ◌<◌, ◌≤◌, arith, mul-le-mul, mul-le-mul_right}
use Rattle.std.proofs.lemmas.Grind.{div_ceil_times}
use Rattle.base_122.specs.Ranges.{IsWithin, width_range, rows_range}
use Rattle.base_122.specs.Sizes.{block_count, total_blocks, segment_count, first_block, segment_blocks}

pub three-le-block_count : (n : ℕ) → 17 ≤ n → 3 ≤ block_count n
three-le-block_count n least = omega arith

pub block_count-width : (n : ℕ) → IsWithin width_range n → block_count n ≤ 2 ^ 17
block_count-width n within = omega arith

pub block_count-rows : (n : ℕ) → IsWithin rows_range n → block_count n ≤ 2 ^ 15
block_count-rows n within = omega arith

pub total_blocks-most : (width rows : ℕ) → IsWithin width_range width → IsWithin rows_range rows → total_blocks width rows ≤ 2 ^ 32
total_blocks-most width rows in_width in_rows = mul-le-mul (block_count-width width in_width) (block_count-rows rows in_rows)

pub nine-le-total_blocks : (width rows : ℕ) → 17 ≤ width → 17 ≤ rows → 9 ≤ total_blocks width rows
nine-le-total_blocks width rows in_width in_rows = mul-le-mul (three-le-block_count width in_width) (three-le-block_count rows in_rows)

-- each segment begins before the end
pub first_block-lt : (total S index : ℕ) → 0 < S → index < segment_count total S → first_block S index < total
first_block-lt total S index some below = omega (arith, mul-le-mul_right S below, (div_ceil_times total S some).1)

-- after the last segment nothing is left
pub total-le-segments : (total S : ℕ) → 0 < S → total ≤ segment_count total S * S
total-le-segments total S some = (div_ceil_times total S some).0

-- and so it has a block, and no more than S
pub one-le-segment_blocks : (total S index : ℕ) → 0 < S → index < segment_count total S → 1 ≤ segment_blocks total S index
one-le-segment_blocks total S index some below = let before = first_block-lt total S index some below in omega (arith, before)

-- a segment that is not the last is whole
pub segment_blocks-whole : (total S index : ℕ) → 0 < S → index + 1 < segment_count total S → segment_blocks total S index ≡ S
segment_blocks-whole total S index some below = let next = first_block-lt total S (index + 1) some below in omega (arith, next)
