-- Whether a segment's head agrees with the image of its packet. This project's own.
use Rattle.std.specs.Prelude.{ℕ, ◌+◌, ◌-◌, ◌*◌, ◌/◌, ◌%◌, ◌==◌, ◌&&◌, ◌||◌, Bool, true, false, not, nat_le, nat_lt, if◌then◌else◌, min, [], ◌∷◌, Option}
use Rattle.std.specs.Prelude.{None, Some, Result, Ok, Err}
use Rattle.std.specs.Str.{bytes_eq}
use Rattle.base_122.specs.Sizes.{block_count, padded_size, total_blocks}
use Rattle.base_122.specs.Ranges.{is_within, rows_range}
use Rattle.base_122.specs.declared.geometry.Geometry.{Geometry}
use Rattle.segment_defs.specs.declared.head.SegmentHead.{SegmentHead}
use Rattle.segment_defs.specs.declared.head.ImagePart.{ImagePart}
use Rattle.segment_defs.specs.declared.fault.HeadFault.{HeadFault}
use Rattle.segment_defs.specs.declared.fault.HeadFault.TheVariants.{BadValue}
use Rattle.segment_defs.specs.declared.fault.HeadField.TheVariants.{First, Blocks, Last, Count, PadRows, Image}
use Rattle.packet_defs.specs.declared.ancillary.Ancillary.{Ancillary}
use Rattle.packet_defs.specs.Tests.{when, first_of}

-- the geometry in a segment's packet and head; its rows are 0 if the height is reported last
abbrev pub geometry_reported : Ancillary → ImagePart → Geometry
geometry_reported a image = record {
  width = image.width;
  rows = a.rows;
  depth = image.depth;
  signed = image.signed;
  segment = a.segment;
  image = a.image;
  word = image.word;
  weights = image.weights;
}

-- the geometry that is known, or else the one in the packet and head
abbrev pub geometry_for : Option Geometry → Ancillary → ImagePart → Geometry
geometry_for None a image = geometry_reported a image
geometry_for (Some g) a image = g

abbrev pub blocks_of : Geometry → ℕ
blocks_of g = total_blocks g.width g.rows

abbrev pub same_flag : Bool → Bool → Bool
same_flag true b = b
same_flag false b = not b

-- the image part of a head is that of this geometry; weights are compared as they are read
abbrev pub is_of_image : Geometry → ImagePart → Bool
is_of_image g image =
    same_flag image.signed g.signed && ((image.depth == g.depth) && ((image.width == g.width) && ((image.word == g.word)
    && bytes_eq image.weights.shifts g.weights.shifts)))

-- ---- where the packets tell the height

-- the blocks are the segment's
abbrev pub has_blocks : Geometry → Ancillary → SegmentHead → Bool
has_blocks g a head = nat_lt a.first (blocks_of g) && (head.blocks == min g.segment (blocks_of g - a.first))

-- it is the last one exactly if it ends the image
abbrev pub ends_where_reported : Geometry → Ancillary → SegmentHead → Bool
ends_where_reported g a head = same_flag head.last (a.first + head.blocks == blocks_of g)

-- the padding rows are those of the image
abbrev pub pads_as_reported : Geometry → SegmentHead → Bool
pads_as_reported g head = not head.last || (head.pad_rows == padded_size g.rows - g.rows)

-- ---- if the height is reported last

-- the blocks are those of a whole segment, or fewer in the last one
abbrev pub may_have_blocks : Geometry → SegmentHead → Bool
may_have_blocks g head = if head.last then nat_le 1 head.blocks && nat_le head.blocks g.segment else head.blocks == g.segment

-- the height that a last head reports: that of the block rows that it ends, without the padding rows
abbrev pub reported_height : Geometry → Ancillary → SegmentHead → ℕ
reported_height g a head = 8 * ((a.first + head.blocks) / block_count g.width) - head.pad_rows

-- it ends block rows and a height in range, or leaves room for a segment after it
abbrev pub may_end : Geometry → Ancillary → SegmentHead → Bool
may_end g a head =
    if head.last
    then ((a.first + head.blocks) % block_count g.width == 0) && is_within rows_range (reported_height g a head)
    else nat_lt (a.first + g.segment) (32768 * block_count g.width)

-- ---- all tests

-- the first of these by which a head doesn't agree with its packet, in an image of this geometry
unfoldable pub disagreement : Geometry → Ancillary → SegmentHead → Option HeadFault
disagreement g a head = first_of (
    when (not (same_flag head.first (a.index == 0))) (BadValue First)
    ∷ when (not (if a.reported_last then may_have_blocks g head else has_blocks g a head)) (BadValue Blocks)
    ∷ when (not (if a.reported_last then may_end g a head else ends_where_reported g a head)) (BadValue Last)
    ∷ when (not (head.count == a.index % 256)) (BadValue Count)
    ∷ when (not (a.reported_last || pads_as_reported g head)) (BadValue PadRows)
    ∷ when (not (is_of_image g head.image)) (BadValue Image)
    ∷ []
    )

-- the geometry once this head is kept: if the height is reported last, a last head reports it
abbrev pub geometry_past : Geometry → Ancillary → SegmentHead → Geometry
geometry_past g a head = if a.reported_last && head.last then record g { rows = reported_height g a head } else g

-- why a head that was read is refused, or why it couldn't be read, in a packet with these ancillary data
abbrev pub head_refusal : Option Geometry → Ancillary → Result SegmentHead HeadFault → Option HeadFault
head_refusal current a (Err fault) = Some fault
head_refusal current a (Ok head) = disagreement (geometry_for current a head.image) a head
