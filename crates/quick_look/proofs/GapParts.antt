-- The block rows that have a part of a gap.
use Rattle.std.proofs.Common.{◌≡◌, ◌≤◌, ◌<◌, ◌+◌, ◌-◌, ◌/◌, ℕ, sym, ◌∙◌, arith, get_or, length}
use Rattle.std.proofs.lemmas.List.FromFn.{length-range_with_len, get_or-range_with_len}
use Rattle.base_122.specs.Sizes.{block_count}
use Rattle.quick_look.specs.declared.gap.Gap.{Gap}
use Rattle.quick_look.specs.Gaps.{gap_rows}

-- the block rows of a gap, one after another
pub row_at : (width : ℕ) (gap : Gap) (row : ℕ) → gap.first / block_count width ≤ row → row ≤ gap.last / block_count width →
    (row - gap.first / block_count width < length (gap_rows width gap)) × (row ≡ get_or (gap_rows width gap) (row - gap.first / block_count width) row)
row_at width gap row low high =
    let a = gap.first / block_count width in
    let n = gap.last / block_count width + 1 - a in
    let count = length-range_with_len a n in
    let within : row - a < n = omega (arith, low, high) in
    (omega (arith, count, within), (let e : row ≡ a + (row - a) = omega (arith, low) in e) ∙ sym (get_or-range_with_len a n (row - a) row within))

pub rows_end : (width : ℕ) (gap : Gap) (row : ℕ) → gap.last / block_count width + 1 ≤ row → length (gap_rows width gap) ≤ row - gap.first / block_count width
rows_end width gap row le =
    let count = length-range_with_len (gap.first / block_count width) (gap.last / block_count width + 1 - gap.first / block_count width) in
    omega (arith, count, le)
