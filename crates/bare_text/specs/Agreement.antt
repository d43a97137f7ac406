-- The points in which the heads of a bare stream agree with its first head. (This project's own.)
use Rattle.std.specs.Prelude.{ℕ, ◌+◌, ◌-◌, ◌*◌, ◌/◌, ◌%◌, ◌==◌, ◌&&◌, ◌||◌, Bool, not, nat_lt, nat_le, if◌then◌else◌, List, [], ◌∷◌, Option}
use Rattle.std.specs.Str.{bytes_eq}
use mathlib.Core.Bool.{beq}
use Rattle.base_122.specs.Ranges.{is_within, rows_range}
use Rattle.base_122.specs.Sizes.{block_count}
use Rattle.segment_defs.specs.declared.head.SegmentHead.{SegmentHead}
use Rattle.segment_defs.specs.declared.head.ImagePart.{ImagePart}
use Rattle.segment_defs.specs.declared.fault.HeadFault.{HeadFault}
use Rattle.segment_defs.specs.declared.fault.HeadFault.TheVariants.{BadValue}
use Rattle.segment_defs.specs.declared.fault.HeadField.TheVariants as bad
use Rattle.segment_defs.specs.Reading.{refused_where}

-- blocks in a row of blocks: the width is padded to a multiple of 8
abbrev pub columns : SegmentHead → ℕ
columns first = block_count first.image.width

-- blocks before the segment of this index: each segment before has those of the first
abbrev pub blocks_before : SegmentHead → ℕ → ℕ
blocks_before first index = index * first.blocks

-- the first flag is set exactly at index 0
abbrev pub first_agrees : ℕ → SegmentHead → Bool
first_agrees index h = beq h.first (index == 0)

-- a segment has the number of blocks of the first, and the last at most that number; it is at least 16 unless the first head is the last
abbrev pub blocks_agree : SegmentHead → SegmentHead → Bool
blocks_agree first h =
    (if h.last then nat_le 1 h.blocks && nat_le h.blocks first.blocks else h.blocks == first.blocks) && (nat_le 16 first.blocks || first.last)

-- the rows of an image that ends with this segment
abbrev pub height_at : SegmentHead → ℕ → SegmentHead → ℕ
height_at first index h = 8 * ((blocks_before first index + h.blocks) / columns first) - h.pad_rows

-- the last segment ends a row of blocks, and the height is in its range; a segment that isn't the last leaves room for another
abbrev pub last_agrees : SegmentHead → ℕ → SegmentHead → Bool
last_agrees first index h =
    if h.last
    then ((blocks_before first index + h.blocks) % columns first == 0) && is_within rows_range (height_at first index h)
    else nat_lt (blocks_before first index + first.blocks) (32768 * columns first)

-- the count is the index modulo 256
abbrev pub count_agrees : ℕ → SegmentHead → Bool
count_agrees index h = h.count == index % 256

-- the image part is that of the first head
abbrev pub image_agrees : ImagePart → ImagePart → Bool
image_agrees a b = beq a.signed b.signed && ((a.depth == b.depth) &&
    ((a.width == b.width) && ((a.word == b.word) && bytes_eq a.weights.shifts b.weights.shifts)))

-- the points, in their order
unfoldable pub agreement_tests : SegmentHead → ℕ → SegmentHead → List (Option HeadFault)
agreement_tests first index h =
    refused_where (not (first_agrees index h)) (BadValue bad.First)
    ∷ refused_where (not (blocks_agree first h)) (BadValue bad.Blocks)
    ∷ refused_where (not (last_agrees first index h)) (BadValue bad.Last)
    ∷ refused_where (not (count_agrees index h)) (BadValue bad.Count)
    ∷ refused_where (not (image_agrees h.image first.image)) (BadValue bad.Image)
    ∷ []
