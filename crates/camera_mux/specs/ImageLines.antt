-- The lines of a list of images. This project's own.
use Rattle.std.specs.Prelude.{ℕ, ◌==◌, Bool, if◌then◌else◌, List, [], ◌++◌, decimal, codes, Option, None, Some}
use Rattle.std.specs.List.{flat_map}
use Rattle.base_122.specs.Sizes.{total_blocks, segment_count}
use Rattle.base_122.specs.declared.geometry.Geometry.{Geometry}
use Rattle.packet_defs.specs.Streams.{whole_packets}
use Rattle.camera_mux.specs.declared.image.ImageId.{ImageId}
use Rattle.camera_mux.specs.declared.image.ImageCount.{ImageCount}
use Rattle.camera_mux.specs.declared.image.ImageEntry.{ImageEntry}
use Rattle.camera_mux.specs.Images.{entries}

-- ---- a line

-- a number, if the height is known
abbrev pub known_text : Geometry → ℕ → List ℕ
known_text g number = if g.rows == 0 then codes "unknown" else decimal number

abbrev pub flag_text : Bool → List ℕ
flag_text flag = if flag then codes "1" else codes "0"

-- the segments of the image
abbrev pub segments_of : Geometry → ℕ
segments_of g = segment_count (total_blocks g.width g.rows) g.segment

abbrev pub id_text : ImageId → List ℕ
id_text id = codes "apid " ++ decimal id.apid ++ codes " image " ++ decimal id.image

abbrev pub geometry_text : Geometry → List ℕ
geometry_text g =
    codes " width " ++ decimal g.width ++ codes " rows " ++ known_text g g.rows ++ codes " depth " ++ decimal g.depth
    ++ codes " signed " ++ flag_text g.signed ++ codes " segment " ++ decimal g.segment

abbrev pub count_text : Geometry → ImageCount → List ℕ
count_text g count =
    codes " packets " ++ decimal count.packets ++ codes " octets " ++ decimal count.octets
    ++ codes " segments " ++ decimal count.received ++ codes " of " ++ known_text g (segments_of g)

-- the line of an image with this geometry; an image that has begun has one
abbrev pub line_with : Option Geometry → ImageId → ImageCount → List ℕ
line_with None id count = []
line_with (Some g) id count = id_text id ++ geometry_text g ++ count_text g count ++ codes "\n"

abbrev pub line_of : ImageEntry → List ℕ
line_of entry = line_with entry.state.geometry entry.id entry.count

-- ---- all lines

abbrev pub lines_of : List ImageEntry → List ℕ
lines_of known = flat_map line_of known

-- the lines of the images that begin in a stream of octets
abbrev pub listing : (wanted : Option ℕ) → List ℕ → List ℕ
listing wanted octets = lines_of (entries wanted (whole_packets octets))
