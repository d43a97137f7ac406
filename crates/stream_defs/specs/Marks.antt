-- Missing block rows of an image, and the ranges of rows that they damage. This project's own.
use Rattle.std.specs.Prelude.{ℕ, ◌==◌, ◌||◌, nat_le, List, [], Option, filter, find}
use Rattle.std.specs.List.{range_with_len, list_any}
use Rattle.stream_defs.specs.declared.range.RowRange.{RowRange}
use Rattle.stream_defs.specs.Damage.{ranges}

-- block rows that an image has at most, of 262,144 rows
unfoldable pub most_block_rows : ℕ
most_block_rows = 32768

-- rows of the image, and its missing block rows in rising order
pub record Marks : Type 0 where
  pub rows : ℕ
  pub missing : List ℕ

abbrev pub unmarked : (rows : ℕ) → Marks
unmarked rows = record { rows = rows; missing = [] }

-- the missing ones and one block row more, which may be missing already
unfoldable pub and_missing : List ℕ → (block_row : ℕ) → List ℕ
and_missing missing r = filter (λ i. list_any (λ k. k == i) missing || (i == r)) (range_with_len 0 most_block_rows)

abbrev pub marked : Marks → (block_row : ℕ) → Marks
marked m r = record m { missing = and_missing m.missing r }

-- the image has this number of rows; the missing block rows are unchanged
abbrev pub ended_at : Marks → (rows : ℕ) → Marks
ended_at m rows = record m { rows = rows }

-- the first range that begins at a row or later
abbrev pub next_range : Marks → (from : ℕ) → Option RowRange
next_range m from = find (λ range. nat_le from range.first) (ranges m.rows m.missing)
