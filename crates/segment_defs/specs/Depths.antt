-- The depths of a segment's blocks (CCSDS 122.0-B-2, section 4.2: BitDepthDC, BitDepthAC and the blocks' own depths).
-- A block is the list of its 64 weighted numbers, the DC first.
use Rattle.std.specs.Prelude.{ℕ, ◌+◌, ℤ, pos, negsuc, List, map, drop, slice_index_or, unsigned_abs}
use Rattle.segment_defs.specs.Size.{size_of, greatest}

abbrev pub dc_of : List ℤ → ℤ
dc_of block = slice_index_or block 0 (pos 0)

-- the DC numbers of a segment's blocks
abbrev pub dcs_of : List (List ℤ) → List ℤ
dcs_of blocks = map dc_of blocks

-- a block's depth: the least d with the magnitudes of its 63 AC numbers below 2 ^ d
abbrev pub block_depth : List ℤ → ℕ
block_depth block = greatest (λ z. size_of (unsigned_abs z)) (drop 1 block)

abbrev pub block_depths : List (List ℤ) → List ℕ
block_depths blocks = map block_depth blocks

-- BitDepthAC: the greatest block depth
abbrev pub depth_ac_of : List (List ℤ) → ℕ
depth_ac_of blocks = greatest block_depth blocks

-- the least d, at least 1, with a number in -2 ^ (d - 1) to 2 ^ (d - 1) - 1; `negsuc a` is -(a + 1)
abbrev pub signed_size : ℤ → ℕ
signed_size (pos a) = size_of a + 1
signed_size (negsuc a) = size_of a + 1

-- BitDepthDC: the least d that holds every DC number
abbrev pub depth_dc_of : List (List ℤ) → ℕ
depth_dc_of blocks = greatest (λ block. signed_size (dc_of block)) blocks
