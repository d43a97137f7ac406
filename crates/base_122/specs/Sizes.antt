-- Sizes of the padded image, its blocks and its segments, in plain numbers.
use Rattle.std.specs.Prelude.{ℕ, ◌+◌, ◌-◌, ◌*◌, ◌/◌, min}
use Rattle.std.specs.Int.{div_ceil}

-- the number of rows or columns of blocks that cover n rows or columns of pixels (CCSDS 122.0-B-2, padding)
abbrev pub block_count : ℕ → ℕ
block_count n = (n + 7) / 8

-- the number of rows or columns of the padded image: the next multiple of 8 (CCSDS 122.0-B-2, padding)
abbrev pub padded_size : ℕ → ℕ
padded_size n = block_count n * 8

-- the number of blocks of an image (CCSDS 122.0-B-2, blocks)
abbrev pub total_blocks : (width rows : ℕ) → ℕ
total_blocks width rows = block_count width * block_count rows

-- the number of segments of this number of blocks, each of S except the last (CCSDS 122.0-B-2, segments)
abbrev pub segment_count : (total S : ℕ) → ℕ
segment_count total S = div_ceil total S

-- the first block of a segment
abbrev pub first_block : (S index : ℕ) → ℕ
first_block S index = index * S

-- the number of blocks of the segment of this index: S, or what is left (CCSDS 122.0-B-2, segments)
abbrev pub segment_blocks : (total S index : ℕ) → ℕ
segment_blocks total S index = min S (total - first_block S index)

-- the greatest number of samples that the encoder holds (this project's own)
abbrev pub sample_need : (width S : ℕ) → ℕ
sample_need width S = 64 * padded_size width + 65 * S
