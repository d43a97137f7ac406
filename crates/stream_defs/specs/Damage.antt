-- The rows that missing blocks reach. This project's own.
use Rattle.std.specs.Prelude.{◌≡◌, ℕ, ◌+◌, ◌-◌, ◌*◌, ◌/◌, ◌≤◌, ◌==◌, ◌&&◌, ◌||◌, Bool, not, nat_le, nat_lt, List, [], ◌∷◌, length, map, filter, take_while}
use Rattle.std.specs.Prelude.{is_some, Option}
use Rattle.std.specs.List.{range_with_len, list_any}
use Rattle.std.specs.Prelude.{ℤ}
use Rattle.base_122.specs.Sizes.{block_count}
use Rattle.base_122.specs.declared.geometry.Geometry.{Geometry}
use Rattle.wave_defs.specs.Reach.{reaches}
use Rattle.stream_defs.specs.Begun.{height, block_rows}
use Rattle.stream_defs.specs.declared.range.RowRange.{RowRange}

-- ---- missing block rows

-- some block of this block row is in no received segment
abbrev pub is_missing : Geometry → (ℕ → Option (List (List ℤ))) → (block_row : ℕ) → Bool
is_missing g received r =
    list_any (λ column. not (is_some (received ((r * block_count g.width + column) / g.segment)))) (range_with_len 0 (block_count g.width))

-- those of the first block rows that are missing, in rising order
unfoldable pub missing_below : Geometry → (ℕ → Option (List (List ℤ))) → (rows : ℕ) → List ℕ
missing_below g received rows = filter (is_missing g received) (range_with_len 0 rows)

-- the missing block rows if the kept heads reach n block rows, and those of an image whose height is known
abbrev pub missing_rows : Geometry → (ℕ → Option (List (List ℤ))) → (n : ℕ) → List ℕ
missing_rows g received n = missing_below g received (block_rows g n)

abbrev pub whole_missing : Geometry → (ℕ → Option (List (List ℤ))) → List ℕ
whole_missing g received = missing_below g received (block_count g.rows)

-- ---- their reach

-- in an image with this number of rows, one of these block rows reaches this row
abbrev pub is_damaged : (rows : ℕ) → List ℕ → (row : ℕ) → Bool
is_damaged rows missing row = nat_lt row rows && list_any (λ r. reaches r row) missing

-- a damaged row after a row that isn't
abbrev pub begins_range : (rows : ℕ) → List ℕ → (row : ℕ) → Bool
begins_range rows missing row =
    is_damaged rows missing row && ((row == 0) || not (is_damaged rows missing (row - 1)))

-- the damaged rows from one on, up to the first that isn't
abbrev pub run_length : (rows : ℕ) → List ℕ → (row : ℕ) → ℕ
run_length rows missing row = length (take_while (is_damaged rows missing) (range_with_len row (rows - row)))

abbrev pub range_from : (rows : ℕ) → List ℕ → (row : ℕ) → RowRange
range_from rows missing row = record { first = row; last = row + run_length rows missing row - 1 }

-- the damaged rows as ranges, each as long as can be, in rising order
unfoldable pub ranges : (rows : ℕ) → List ℕ → List RowRange
ranges rows missing = map (range_from rows missing) (filter (begins_range rows missing) (range_with_len 0 rows))

-- if the kept heads reach n block rows, and for an image whose height is known
abbrev pub damage : Geometry → (ℕ → Option (List (List ℤ))) → (n : ℕ) → List RowRange
damage g received n = ranges (height g n) (missing_rows g received n)

abbrev pub whole_damage : Geometry → (ℕ → Option (List (List ℤ))) → List RowRange
whole_damage g received = ranges g.rows (whole_missing g received)

-- ---- what makes them the least list

-- a row is in one of these ranges
abbrev pub is_covered : List RowRange → (row : ℕ) → Bool
is_covered ranges row = list_any (λ range. nat_le range.first row && nat_le row range.last) ranges

-- exactly these rows are in a range
pub record Covers (ranges : List RowRange) (rows : ℕ) (missing : List ℕ) : Type 0 where
  pub each : (row : ℕ) → is_covered ranges row ≡ is_damaged rows missing row

-- each range is one, and begins at this row or later, after a row that is in none
abbrev pub LieApart : (least : ℕ) → List RowRange → Type 0
LieApart least [] = Unit {0}
LieApart least (range ∷ ranges) = (least ≤ range.first) × (range.first ≤ range.last) × LieApart (range.last + 2) ranges

-- The ranges cover exactly the damaged rows, and any two have a row between them; so no list of fewer ranges does.
pub record DamageIsLeast : Type 0 where
  pub covers : (rows : ℕ) (missing : List ℕ) → Covers (ranges rows missing) rows missing
  pub lie_apart : (rows : ℕ) (missing : List ℕ) → LieApart 0 (ranges rows missing)
