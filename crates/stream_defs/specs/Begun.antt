-- The rows of an image as the kept packets report it: its height, or what their heads reach while it isn't known. This project's own.
use Rattle.std.specs.Prelude.{◌≡◌, ◌≤◌, ℕ, ◌+◌, ◌-◌, ◌*◌, ◌/◌, ◌==◌, max, if◌then◌else◌, List, fold, Option, None, Some, Result, Ok, Err}
use Rattle.std.specs.Int.{div_ceil}
use Rattle.base_122.specs.Sizes.{block_count}
use Rattle.base_122.specs.Ranges.{rows_range}
use Rattle.base_122.specs.declared.geometry.Geometry.{Geometry}
use Rattle.segment_defs.specs.declared.head.SegmentHead.{SegmentHead}
use Rattle.segment_defs.specs.declared.fault.HeadFault.{HeadFault}
use Rattle.segment_defs.specs.Reading.{head_read}
use Rattle.packet_defs.specs.declared.ancillary.Ancillary.{Ancillary}
use Rattle.packet_defs.specs.Reading.{ancillary_in, text_in}
use Rattle.stream_defs.specs.Fates.{geometry_in, kept_in}

-- ---- what the kept heads reach

-- the first block after a segment whose head was read in a packet with these ancillary data
abbrev pub end_known : Ancillary → Result SegmentHead HeadFault → ℕ
end_known a (Ok head) = a.first + head.blocks
end_known a (Err fault) = 0

-- the first block after the segment that a packet begins; 0 if it begins none
abbrev pub end_in : List ℕ → ℕ
end_in packet = if (ancillary_in packet).part == 0 then end_known (ancillary_in packet) (head_read (text_in packet)) else 0

-- the greatest of these
unfoldable pub end_of : List (List ℕ) → ℕ
end_of packets = fold (λ most packet. max most (end_in packet)) 0 packets

-- whole block rows that the heads of kept packets reach, in an image of this width
abbrev pub begun : Geometry → List (List ℕ) → ℕ
begun g packets = end_of packets / block_count g.width

-- of a stream of octets; none without a geometry
abbrev pub begun_in : (apid : ℕ) → List ℕ → ℕ
begun_in apid octets = by_geometry (geometry_in apid octets)
  where
    by_geometry : Option Geometry → ℕ
    by_geometry None = 0
    by_geometry (Some g) = begun g (kept_in apid octets)

-- ---- rows

-- rows that are given if the kept heads reach n block rows: all, or those that these determine while the height isn't known
abbrev pub height : Geometry → (n : ℕ) → ℕ
height g n = if g.rows == 0 then 8 * n - 21 else g.rows

-- block rows of which some can be missing
abbrev pub block_rows : Geometry → (n : ℕ) → ℕ
block_rows g n = if g.rows == 0 then n else block_count g.rows

-- block rows of the bands: while the height isn't known, the least number that an image has of which the first n don't end it
abbrev pub band_rows : Geometry → (n : ℕ) → ℕ
band_rows g n = if g.rows == 0 then n + 3 else block_count g.rows

-- ---- while the height isn't reported

-- the rows by which blocks are placed: the height, or that of the tallest image
abbrev pub placed_rows : Geometry → ℕ
placed_rows g = if g.rows == 0 then rows_range.most else g.rows

-- the geometry by which blocks are placed
abbrev pub placed : Geometry → Geometry
placed g = record g { rows = placed_rows g }

-- the height, or the least height of an image that has the blocks before this one
abbrev pub rows_reached : Geometry → (ended : ℕ) → ℕ
rows_reached g ended = if g.rows == 0 then max rows_range.least (8 * div_ceil ended (block_count g.width) - 7) else g.rows

-- the kept heads of a stream of octets reach at most this number of pixels
abbrev pub HasFewPixels : (pixels apid : ℕ) → List ℕ → Type 0
HasFewPixels pixels apid octets = (g : Geometry) → geometry_in apid octets ≡ Some g → g.width * rows_reached g (end_of (kept_in apid octets)) ≤ pixels
