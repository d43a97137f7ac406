-- The geometry that heads of a bare stream report, and the rows that its segments determine. (This project's own.)
use Rattle.std.specs.Prelude.{ℕ, ◌+◌, ◌-◌, ◌*◌, ℤ, if◌then◌else◌, List, length, Option, None, Some, slice_get}
use Rattle.base_122.specs.Sizes.{first_block}
use Rattle.base_122.specs.declared.geometry.Geometry.{Geometry}
use Rattle.segment_defs.specs.declared.head.SegmentHead.{SegmentHead}
use Rattle.stream_defs.specs.Begun.{rows_reached}
use Rattle.stream_defs.specs.Picture.{first_rows, whole_octets}
use Rattle.stream_defs.specs.Settled.{block_rows_before}
use Rattle.bare_text.specs.Agreement.{blocks_before, height_at}

-- the geometry of a stream with this first head, of which the segment of this index with this head is the last
abbrev pub geometry_at : (first : SegmentHead) → (index : ℕ) → (last : SegmentHead) → Geometry
geometry_at first index last = record {
  width = first.image.width;
  rows = height_at first index last;
  depth = first.image.depth;
  signed = first.image.signed;
  segment = first.blocks;
  image = 0;
  word = first.image.word;
  weights = first.image.weights;
}

-- what the heads before the last one report of the image: its rows are 0, since its height isn't known
abbrev pub open_geometry : (first : SegmentHead) → Geometry
open_geometry first = record (geometry_at first 0 first) { rows = 0 }

-- the geometry by which a picture with this first head is made: its segment size has no effect there, and is the least number of blocks
abbrev pub shape_with : (first : SegmentHead) → (rows : ℕ) → Geometry
shape_with first rows = record (geometry_at first 0 first) { rows = rows; segment = 16 }

-- the pixels of an image with this head, or at least of one that has its blocks while the height isn't known
abbrev pub pixels_at : (first : SegmentHead) → (index : ℕ) → SegmentHead → ℕ
pixels_at first index head =
    first.image.width * rows_reached (if head.last then geometry_at first index head else open_geometry first) (blocks_before first index + head.blocks)

-- ---- rows

-- the segments by their index
abbrev pub segments_in : List (List (List ℤ)) → ℕ → Option (List (List ℤ))
segments_in blocks index = slice_get blocks index

-- the whole block rows of this number of segments, each with the number of blocks of the first
abbrev pub block_rows_in : (first : SegmentHead) → (segments : ℕ) → ℕ
block_rows_in first segments = block_rows_before (open_geometry first) (first_block first.blocks segments)

-- the rows that these segments determine, whatever follows them: those below 8 m - 21 of the picture with m whole block rows
unfoldable pub open_rows : (first : SegmentHead) → List (List (List ℤ)) → List ℕ
open_rows first blocks =
    first_rows (open_geometry first) (segments_in blocks) (block_rows_in first (length blocks)) (8 * block_rows_in first (length blocks) - 21)

-- all rows of the picture of these segments
abbrev pub all_rows : Geometry → List (List (List ℤ)) → List ℕ
all_rows g blocks = whole_octets g (segments_in blocks)

-- the rows of the picture that segments determine, with the last segment or without it
abbrev pub rows_with : (first : SegmentHead) → (ended : Option Geometry) → List (List (List ℤ)) → List ℕ
rows_with first None blocks = open_rows first blocks
rows_with first (Some g) blocks = all_rows g blocks
