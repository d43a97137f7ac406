-- Missing block rows as a table of bits. This project's own.
use Rattle.std.specs.Prelude.{ℕ, ◌≡◌, ◌≤◌, ◌/◌, ◌%◌, ◌==◌, Bool, List, length, filter, slice_index}
use Rattle.std.specs.Int.{bit_at}
use Rattle.std.specs.List.{range_with_len, list_any}
use Rattle.damage_rows.specs.declared.damage.Damage.TheInside.{Inside}
use Rattle.stream_defs.specs.Marks.{Marks, most_block_rows}

-- a block row is among those that are missing
abbrev pub is_missing : List ℕ → (block_row : ℕ) → Bool
is_missing missing r = list_any (λ k. k == r) missing

-- the bit of a block row in words of 64 bits, the lowest first
unfoldable pub is_set : List ℕ → (block_row : ℕ) → Bool
is_set words r = bit_at (slice_index words (r / 64)) (r % 64) == 1

-- the block rows whose bits are set
unfoldable pub set_rows : List ℕ → List ℕ
set_rows words = filter (is_set words) (range_with_len 0 most_block_rows)

abbrev pub marks_of : Inside → Marks
marks_of d = record { rows = d.rows; missing = set_rows d.words.items }

-- the image has at most the rows of the highest image, and there is a bit for each of its block rows
pub record IsTable (d : Inside) : Type 0 where
  pub rows : d.rows ≤ 262144
  pub words : length d.words.items ≡ 512
