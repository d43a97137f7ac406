-- All packets of an image: the definition, over the whole image, of what an encoder writes. Nothing in it depends on the order in which
-- rows arrive. A setting here has the height of the image; whether the packets report that height or leave it to the last head is a
-- separate argument.
use Rattle.std.specs.Prelude.{ℕ, zero, suc, ◌+◌, ◌-◌, ◌*◌, ◌/◌, ◌%◌, ◌==◌, ℤ, Bool, true, false, if◌then◌else◌, min, List, length, take, drop}
use Rattle.std.specs.List.{range_with_len, flat_map, sum_by}
use Rattle.wave_defs.specs.Pyramid.{padded, pyramid}
use Rattle.wave_defs.specs.Blocks.{blocks}
use Rattle.base_122.specs.Sizes.{block_count, padded_size, total_blocks, segment_count, first_block}
use Rattle.base_122.specs.Ranges.{limit_range}
use Rattle.base_122.specs.Setting.{sized}
use Rattle.base_122.specs.declared.setting.Setting.{Setting}
use Rattle.base_122.specs.declared.setting.Select.{Select}
use Rattle.base_122.specs.declared.setting.Select.TheVariants.{Heuristic, Optimal}
use Rattle.base_122.specs.declared.setting.Stop.{Stop}
use Rattle.segment_defs.specs.declared.head.SegmentHead.{SegmentHead}
use Rattle.segment_defs.specs.declared.head.ImagePart.{ImagePart}
use Rattle.segment_defs.specs.Depths.{depth_dc_of, depth_ac_of}
use Rattle.segment_defs.specs.Coded.{coded}
use Rattle.packet_defs.specs.declared.ancillary.Ancillary.{Ancillary}
use Rattle.packet_defs.specs.Packets.{joined, part_count, part_size, text_packets}

-- the blocks of an image of the setting's size, in raster order: each the list of its 64 weighted numbers
unfoldable pub image_blocks : Setting → (ℕ → ℕ → ℤ) → List (List ℤ)
image_blocks s x =
    let r = block_count s.rows in
    let c = block_count s.width in
    blocks (pyramid (padded x s.rows s.width) r c) s.weights.shifts r c

-- the segments that a setting cuts its blocks into
abbrev pub segments_of : Setting → ℕ
segments_of s = segment_count (total_blocks s.width s.rows) s.segment

abbrev pub segment_of : Setting → List (List ℤ) → ℕ → List (List ℤ)
segment_of s all index = take s.segment (drop (first_block s.segment index) all)

abbrev pub is_optimal : Select → Bool
is_optimal Heuristic = false
is_optimal Optimal = true

-- the image part of each head
abbrev pub image_part : Setting → ImagePart
image_part s = record { signed = s.signed; depth = s.depth; width = s.width; word = s.word; weights = s.weights }

-- the stop as each head has it: one at the DC numbers has plane 0 and stage 3 there
abbrev pub written_stop : Stop → Stop
written_stop stop = record {
  dc = stop.dc;
  plane = if stop.dc then 0 else stop.plane;
  stage = if stop.dc then 3 else stop.stage;
}

-- The greatest number of octets of the text of a segment, after texts of `used` octets; 0 is no bound. If there is a total, it is an even
-- share of what is left of it, in whole code words.
unfoldable pub share : Setting → (index used : ℕ) → ℕ
share s index used =
    if s.total == 0 then s.limit else min ((s.total - used) / (segments_of s - index)) limit_range.most / s.word * s.word

-- the head of the segment of this index, with this limit, this number of blocks and these depths
abbrev pub head_with : Setting → (index limit count depth_dc depth_ac : ℕ) → SegmentHead
head_with s index limit count depth_dc depth_ac = record {
  first = index == 0;
  last = index + 1 == segments_of s;
  count = index % 256;
  depth_dc = depth_dc;
  depth_ac = depth_ac;
  pad_rows = if index + 1 == segments_of s then padded_size s.rows - s.rows else 0;
  limit = limit;
  stop = written_stop s.stop;
  fill = s.fill;
  blocks = count;
  best_dc = is_optimal s.select;
  best_ac = is_optimal s.select;
  image = image_part s;
}

-- the head of the segment of this index, with these blocks, after texts of `used` octets
abbrev pub head_of : Setting → (index used : ℕ) → List (List ℤ) → SegmentHead
head_of s index used segment = head_with s index (share s index used) (length segment) (depth_dc_of segment) (depth_ac_of segment)

-- the text of the segment of this index, after texts of `used` octets
abbrev pub text_with : Setting → List (List ℤ) → (index used : ℕ) → List ℕ
text_with s all index used = let segment = segment_of s all index in coded s.book (head_of s index used segment) segment

-- the octets of the texts of the segments before this one
unfoldable pub used_before : Setting → List (List ℤ) → (index : ℕ) → ℕ
used_before s all zero = 0
used_before s all (suc index) = used_before s all index + length (text_with s all index (used_before s all index))

-- the head and the text of a segment
abbrev pub head_for : Setting → List (List ℤ) → (index : ℕ) → SegmentHead
head_for s all index = head_of s index (used_before s all index) (segment_of s all index)

abbrev pub segment_text : Setting → List (List ℤ) → (index : ℕ) → List ℕ
segment_text s all index = text_with s all index (used_before s all index)

-- the ancillary data of a segment's packets, with part 0
abbrev pub ancillary_of : (reported_last : Bool) → Setting → (index : ℕ) → Ancillary
ancillary_of reported_last s index = record {
  reported_last = reported_last;
  image = s.image;
  rows = if reported_last then 0 else s.rows;
  segment = s.segment;
  index = index;
  first = first_block s.segment index;
  part = 0;
}

-- the packets of the segments before this one
unfoldable pub packets_before : Setting → List (List ℤ) → ℕ → ℕ
packets_before s all index =
    sum_by (λ i. part_count (part_size s.packet) (length (segment_text s all i))) (range_with_len 0 index)

-- the packets of one segment
abbrev pub segment_packets : (reported_last : Bool) → Setting → List (List ℤ) → (index : ℕ) → List (List ℕ)
segment_packets reported_last s all index =
    text_packets s.apid (ancillary_of reported_last s index) s.packet (packets_before s all index) (segment_text s all index)

-- the packets of the first n segments
unfoldable pub packets_of : (reported_last : Bool) → Setting → List (List ℤ) → (n : ℕ) → List (List ℕ)
packets_of reported_last s all n = flat_map (segment_packets reported_last s all) (range_with_len 0 n)

-- all packets of an image
abbrev pub image_packets : (reported_last : Bool) → Setting → (ℕ → ℕ → ℤ) → List (List ℕ)
image_packets reported_last s x = packets_of reported_last s (image_blocks s x) (segments_of s)

-- a setting with open rows has the height reported last
abbrev pub reports_last : Setting → Bool
reports_last s = s.rows == 0

-- the octets of all packets of an image with this number of rows
abbrev pub output : Setting → (rows : ℕ) → (ℕ → ℕ → ℤ) → List ℕ
output s rows x = joined (image_packets (reports_last s) (sized s rows) x)
