-- The geometry by which blocks are placed, and the rows that the kept heads reach, while the height isn't reported.
use Rattle.std.proofs.Common.{◌≡◌, ◌⊎◌, ◌≤◌, ◌<◌, ◌*◌, ℕ, refl, ap, ◌∙◌, arith, Bool, true, false, ◌==◌, max, ◌-◌, if◌then◌else◌, mul-le-mul_right}
use Rattle.std.specs.Int.{div_ceil}
use Rattle.std.proofs.lemmas.Bool.Decides.{nat_tests}
use Rattle.std.proofs.lemmas.Grind.{div_ceil_times}
use Rattle.base_122.specs.Sizes.{block_count, total_blocks}
use Rattle.base_122.specs.Ranges.{IsWithin, rows_range}
use Rattle.base_122.specs.declared.geometry.Geometry.{Geometry}
use Rattle.stream_defs.specs.Agreement.{blocks_of}
use Rattle.stream_defs.specs.Begun.{placed, placed_rows, rows_reached}

pub is_open : (rows : ℕ) → rows ≡ 0 → (rows == 0) ≡ true
is_open rows e = grind (arith, nat_tests)

pub is_not_open : (rows : ℕ) → (rows ≡ 0 → ⊥) → (rows == 0) ≡ false
is_not_open rows e = grind (arith, nat_tests)

pub within_not : (rows : ℕ) → IsWithin rows_range rows → rows ≡ 0 → ⊥
within_not rows within e = absurd (let least = within.0 in omega (arith, e, least))

-- those of the tallest image, or of the image
pub placed_open : (g : Geometry) → g.rows ≡ 0 → placed_rows g ≡ rows_range.most
placed_open g e = rw (is_open g.rows e) refl

pub placed_known : (g : Geometry) → (g.rows ≡ 0 → ⊥) → placed_rows g ≡ g.rows
placed_known g e = rw (is_not_open g.rows e) refl

pub placed_same : (g : Geometry) → (g.rows ≡ 0 → ⊥) → placed g ≡ g
placed_same g e = λ i. record g { rows = placed_known g e i }

-- and their blocks
pub blocks_open : (g : Geometry) → g.rows ≡ 0 → blocks_of (placed g) ≡ 32768 * block_count g.width
blocks_open g e = ap (λ n. block_count g.width * block_count n) (placed_open g e)
    ∙ (let turned : block_count g.width * 32768 ≡ 32768 * block_count g.width = grind arith in turned)

pub blocks_known : (g : Geometry) → (g.rows ≡ 0 → ⊥) → blocks_of (placed g) ≡ blocks_of g
blocks_known g e = ap (λ n. block_count g.width * block_count n) (placed_known g e)

-- the rows by which blocks are placed are in their range
pub placed_least : (g : Geometry) → (g.rows ≡ 0) ⊎ IsWithin rows_range g.rows → IsWithin rows_range (placed_rows g)
placed_least g h1 = grind (arith, nat_tests, is_open, is_not_open, within_not)

-- ---- rows that the kept heads reach

ceil_most : (n columns rows : ℕ) → 0 < columns → n ≤ columns * rows → div_ceil n columns ≤ rows
ceil_most n columns rows some few = grind (arith, nat_tests, mul-le-mul_right, div_ceil_times)

ceil_rises : (m n columns : ℕ) → 0 < columns → m ≤ n → div_ceil m columns ≤ div_ceil n columns
ceil_rises m n columns some le = grind (arith, nat_tests, div_ceil_times, ceil_most)

-- if the height is known they are all
pub reached_known : (g : Geometry) (n : ℕ) → (g.rows ≡ 0 → ⊥) → rows_reached g n ≡ g.rows
reached_known g n some = rw (is_not_open g.rows some) refl

reached_open : (g : Geometry) (n : ℕ) → g.rows ≡ 0 → rows_reached g n ≡ max rows_range.least (8 * div_ceil n (block_count g.width) - 7)
reached_open g n unknown = rw (is_open g.rows unknown) refl

-- more blocks reach at least the same rows
pub reached_rises : (g : Geometry) (m n : ℕ) → 0 < block_count g.width → m ≤ n → rows_reached g m ≤ rows_reached g n
reached_rises g m n some le = by (g.rows == 0)
  where
    rise : div_ceil m (block_count g.width) ≤ div_ceil n (block_count g.width)
    rise = ceil_rises m n (block_count g.width) some le

    by : (b : Bool) → (if b then max rows_range.least (8 * div_ceil m (block_count g.width) - 7) else g.rows) ≤
        (if b then max rows_range.least (8 * div_ceil n (block_count g.width) - 7) else g.rows)
    by b = grind (arith, nat_tests, rise)

-- blocks of an image reach no more rows than it has
pub reached_few : (g : Geometry) (rows n : ℕ) → g.rows ≡ 0 → 0 < block_count g.width → IsWithin rows_range rows → n ≤ total_blocks g.width rows →
    rows_reached g n ≤ rows
reached_few g rows n unknown some within few = grind (arith, nat_tests, ceil_most, reached_open)
