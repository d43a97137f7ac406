-- What the octets and rows so far determine of the output. This project's own.
use Rattle.std.specs.Prelude.{◌≡◌, ◌<◌, ℕ, ◌+◌, ◌-◌, ◌*◌, ◌/◌, ◌==◌, ◌&&◌, ◌||◌, Bool, not, nat_lt, if◌then◌else◌, List, [], length, slice_index_or, ℤ}
use Rattle.std.specs.Prelude.{is_some, Option, None, Some}
use Rattle.std.specs.List.{count_by, range_with_len}
use Rattle.base_122.specs.Sizes.{block_count, total_blocks, first_block, segment_blocks}
use Rattle.base_122.specs.Ranges.{IsInRange}
use Rattle.base_122.specs.declared.setting.Setting.{Setting}
use Rattle.base_122.specs.declared.geometry.Geometry.{Geometry}
use Rattle.stream_defs.specs.declared.fate.LastPart.{LastPart}
use Rattle.stream_defs.specs.declared.fate.FateState.{FateState}
use Rattle.stream_defs.specs.Output.{packets_of, segments_of}
use Rattle.stream_defs.specs.Agreement.{blocks_of}

-- ---- the encoder

-- the block row of a segment's last block
abbrev pub last_block_row : Setting → (index : ℕ) → ℕ
last_block_row s index =
    (first_block s.segment index + segment_blocks (total_blocks s.width s.rows) s.segment index - 1) / block_count s.width

-- the first k rows determine the segment's numbers: by their reach, or if they are known to be all
abbrev pub is_settled : (reported_last : Bool) → Setting → (k index : ℕ) → Bool
is_settled reported_last s k index = (not reported_last && (k == s.rows)) || nat_lt (8 * last_block_row s index + 28) k

-- the number of settled segments, which are the first ones
unfoldable pub settled : (reported_last : Bool) → Setting → (k : ℕ) → ℕ
settled reported_last s k = count_by (is_settled reported_last s k) (range_with_len 0 (segments_of s))

-- ---- the decoder

-- whole block rows before a block
abbrev pub block_rows_before : Geometry → (block : ℕ) → ℕ
block_rows_before g block = block / block_count g.width

-- blocks of a segment; while the height isn't known, none is known to be the last one
abbrev pub blocks_in : Geometry → (index : ℕ) → ℕ
blocks_in g index = if g.rows == 0 then g.segment else segment_blocks (blocks_of g) g.segment index

-- the first block after a segment if it is received, otherwise its own first block
abbrev pub blocks_through : Geometry → (ℕ → Option (List (List ℤ))) → (index : ℕ) → ℕ
blocks_through g received index = first_block g.segment index + (if is_some (received index) then blocks_in g index else 0)

-- rows that n whole block rows determine; while the height isn't known, none are all of them
abbrev pub rows_through : Geometry → (n : ℕ) → ℕ
rows_through g n = if n == block_count g.rows then g.rows else 8 * n - 21

-- rows that may be written with this last part
abbrev pub rows_after : Geometry → (ℕ → Option (List (List ℤ))) → Option LastPart → ℕ
rows_after g received None = 0
rows_after g received (Some last) = rows_through g (block_rows_before g (blocks_through g received last.index))

-- rows that may be written if octets left this state; none without a geometry
abbrev pub ready : FateState → (ℕ → Option (List (List ℤ))) → ℕ
ready s received = ready_in s.geometry s.last
  where
    ready_in : Option Geometry → Option LastPart → ℕ
    ready_in None last = 0
    ready_in (Some g) last = rows_after g received last

-- ---- why settled segments may go out

-- the blocks that the first k rows determine are the same: block row r depends on padded rows up to 8r + 28
pub record BlocksAgree (s : Setting) (k : ℕ) (xs ys : List (List ℤ)) : Type 0 where
  pub same_length : length xs ≡ length ys
  pub at : (block : ℕ) → 8 * (block / block_count s.width) + 28 < k → slice_index_or xs block [] ≡ slice_index_or ys block []
  pub whole : k ≡ s.rows → xs ≡ ys

-- then the packets of the settled segments are the same
pub record SettledSame : Type 0 where
  pub same : (reported_last : Bool) (s : Setting) (k : ℕ) (xs ys : List (List ℤ)) → IsInRange s → length xs ≡ total_blocks s.width s.rows →
      BlocksAgree s k xs ys →
      packets_of reported_last s xs (settled reported_last s k) ≡ packets_of reported_last s ys (settled reported_last s k)
