-- The packets of an image by their places: the index of the segment and the number of the part.
use Rattle.std.specs.Prelude.{◌≡◌, ℕ, ◌<◌, ◌^◌, ◌==◌, ◌+◌, ℤ, Bool, List, length, Ok}
use Rattle.base_122.specs.Sizes.{total_blocks, segment_blocks}
use Rattle.base_122.specs.Ranges.{IsInRange, IsWithin, rows_range}
use Rattle.base_122.specs.declared.setting.Setting.{Setting}
use Rattle.segment_defs.specs.Reading.{head_read}
use Rattle.packet_defs.specs.Packets.{part_count, part_of, part_size, part_packet}
use Rattle.stream_defs.specs.declared.fate.LastPart.{LastPart}
use Rattle.stream_defs.specs.Output.{ancillary_of, head_for, packets_before, segment_of, segment_text, segments_of}

-- parts of the segment of this index
abbrev pub parts_of : Setting → List (List ℤ) → (index : ℕ) → ℕ
parts_of s all index = part_count (part_size s.packet) (length (segment_text s all index))

-- the packet of one part
abbrev pub packet_at : (reported_last : Bool) → Setting → List (List ℤ) → (index part : ℕ) → List ℕ
packet_at reported_last s all index part =
    part_packet s.apid (ancillary_of reported_last s index) s.packet (packets_before s all index) (parts_of s all index) part (segment_text s all index)

-- the last part after it was kept
abbrev pub place_at : Setting → List (List ℤ) → (index part : ℕ) → LastPart
place_at s all index part = record { index = index; part = part; closed = part + 1 == parts_of s all index }

-- What is assumed of the segments' texts: each begins with its head, which is whole in part 0 and is read as it was written, and has some
-- and fewer than 2 ^ 32 octets; and each segment has its blocks.
pub record AreCoded (s : Setting) (all : List (List ℤ)) : Type 0 where
  pub setting : IsInRange s
  pub rows : IsWithin rows_range s.rows
  pub heads : (index : ℕ) → index < segments_of s →
      head_read (part_of (part_size s.packet) 0 (segment_text s all index)) ≡ Ok (head_for s all index)
  pub some : (index : ℕ) → index < segments_of s → 0 < length (segment_text s all index)
  pub long : (index : ℕ) → index < segments_of s → length (segment_text s all index) < 2 ^ 32
  pub blocks : (index : ℕ) → index < segments_of s → length (segment_of s all index) ≡ segment_blocks (total_blocks s.width s.rows) s.segment index
