-- How many octets of packets a call can give at most. This project's own.
use Rattle.std.specs.Prelude.{ℕ, ◌+◌, ◌-◌, ◌*◌, ◌/◌, ◌==◌, if◌then◌else◌, min}
use Rattle.std.specs.Int.{div_ceil}
use Rattle.base_122.specs.Ranges.{limit_range}
use Rattle.base_122.specs.Setting.{sized}
use Rattle.base_122.specs.Sizes.{block_count}
use Rattle.base_122.specs.declared.setting.Setting.{Setting}
use Rattle.packet_defs.specs.Packets.{part_count, part_size}
use Rattle.stream_defs.specs.Output.{segments_of}
use Rattle.wave_strip.specs.Counts.{settled}

-- octets that a coded segment of this number of blocks has at most without a limit: 18,343 for each gaggle
abbrev pub whole_octets : (blocks : ℕ) → ℕ
whole_octets blocks = 24 + 18343 * ((blocks + 15) / 16)

-- octets that a coded segment of a setting has at most
abbrev pub text_room : Setting → ℕ
text_room s = if s.limit == 0 then (if s.total == 0 then whole_octets s.segment else min s.total limit_range.most) else s.limit

-- octets of the packets of a coded segment of this number of octets: 30 more in each for the primary header and the ancillary data
abbrev pub packet_octets : (packet text : ℕ) → ℕ
packet_octets packet text = text + 30 * part_count (part_size packet) text

-- octets that the packets of a coded segment of a setting have at most
unfoldable pub segment_room : Setting → ℕ
segment_room s = packet_octets s.packet (text_room s)

-- The segments that the first k rows reach: all of their blocks are in the block rows that these rows complete (block row r depends on
-- padded rows up to 8r + 28).
abbrev pub reached : Setting → (k : ℕ) → ℕ
reached s k = block_count s.width * settled k / s.segment

-- octets that are enough for the packets that the next row gives after k rows, and for those that the end gives after them
abbrev pub row_need : Setting → (k : ℕ) → ℕ
row_need s k = (reached s (k + 1) - reached s k) * segment_room s

abbrev pub end_need : Setting → (k : ℕ) → ℕ
end_need s k = (segments_of (sized s k) - reached s k) * segment_room s

-- octets that are enough for each row, and for each end
abbrev pub row_room : Setting → ℕ
row_room s = div_ceil (block_count s.width) s.segment * segment_room s

abbrev pub end_room : Setting → ℕ
end_room s = (div_ceil (4 * block_count s.width) s.segment + 1) * segment_room s

-- octets that are enough for all packets of an image with this number of rows
abbrev pub image_room : Setting → (rows : ℕ) → ℕ
image_room s rows = segments_of (sized s rows) * segment_room s
