-- The lines of a list of packets, one for each with its fate. This project's own.
use Rattle.std.specs.Prelude.{ℕ, List, [], ◌++◌, length, decimal, codes, slice_index_or}
use Rattle.std.specs.List.{range_with_len, flat_map}
use Rattle.packet_defs.specs.declared.packet.Skip.{Skip}
use Rattle.packet_defs.specs.declared.packet.Skip.TheVariants.{Idle, NotTelemetry, OtherApid, NoSecondary, ShortAncillary, OtherMark}
use Rattle.packet_defs.specs.Streams.{whole_packets}
use Rattle.stream_defs.specs.declared.fate.Fate.{Fate}
use Rattle.stream_defs.specs.declared.fate.Fate.TheVariants.{Kept, Skipped, Foreign, Late, OutOfPlace, BadHead}
use Rattle.stream_defs.specs.Fates.{fresh, fates}
use Rattle.packet_assembly.specs.declared.note.PacketNote.{PacketNote}
use Rattle.packet_assembly.specs.Notes.{note_of}

-- ---- a line

abbrev pub skip_text : Skip → List ℕ
skip_text Idle = codes "idle"
skip_text NotTelemetry = codes "not-telemetry"
skip_text OtherApid = codes "other-apid"
skip_text NoSecondary = codes "no-secondary"
skip_text ShortAncillary = codes "short-ancillary"
skip_text OtherMark = codes "other-mark"

-- a fate's name
abbrev pub fate_text : Fate → List ℕ
fate_text Kept = codes "kept"
fate_text (Skipped skip) = skip_text skip
fate_text Foreign = codes "foreign"
fate_text Late = codes "late"
fate_text OutOfPlace = codes "out-of-place"
fate_text (BadHead fault) = codes "bad-head"

-- for a kept packet its segment's index, its part and the octets of its text
abbrev pub place_text : Fate → PacketNote → List ℕ
place_text Kept note = codes " " ++ decimal note.index ++ codes " " ++ decimal note.part ++ codes " " ++ decimal note.octets
place_text other note = []

-- the line of a packet
abbrev pub line_of : PacketNote → List ℕ
line_of note = decimal note.number ++ codes " " ++ fate_text note.fate ++ place_text note.fate note ++ codes "\n"

-- ---- all lines

-- the report of the packet of this number
abbrev pub note_at : (apid : ℕ) → List (List ℕ) → (number : ℕ) → PacketNote
note_at apid packets number = note_of number (slice_index_or (fates apid fresh packets) number Kept) (slice_index_or packets number [])

-- the lines of packets, by their numbers
unfoldable pub lines_of : (apid : ℕ) → List (List ℕ) → List ℕ
lines_of apid packets = flat_map (λ number. line_of (note_at apid packets number)) (range_with_len 0 (length packets))

-- those of the whole packets of a stream of octets
abbrev pub listing : (apid : ℕ) → List ℕ → List ℕ
listing apid octets = lines_of apid (whole_packets octets)
