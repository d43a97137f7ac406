-- The range of each field. The limits are determined by the fields' widths in CCSDS 122.0-B-2 and CCSDS 133.0-B-2
-- and by this project's own profile.
use Rattle.std.specs.Prelude.{◌≡◌, ◌≢◌, ◌≤◌, ◌⊎◌, ◌*◌, ◌%◌, ◌^◌, ℕ, List, [], ◌∷◌, All, Bool, true, not, nat_le, ◌==◌, ◌&&◌, ◌||◌, Option, Some, None}
use Rattle.std.specs.Prelude.{Result, Ok, Err, find}
use Rattle.std.specs.List.{list_all}
use Rattle.base_122.specs.Sizes.{total_blocks, segment_count}
use Rattle.base_122.specs.Weights.{IsShift, is_shift}
use Rattle.base_122.specs.declared.field.Field.{Field}
use Rattle.base_122.specs.declared.field.Field.TheVariants.{Width, Rows, Depth, Segment, Limit, Fill, Word, Stop, Weights, Apid, Image, Packet, Pixels}
use Rattle.base_122.specs.declared.field.Field.TheVariants.{Octets, Total, Cameras}
use Rattle.base_122.specs.declared.field.OutOfRange.{OutOfRange}
use Rattle.base_122.specs.declared.range.FieldRange.{FieldRange}
use Rattle.base_122.specs.declared.setting.Setting.{Setting}
use Rattle.base_122.specs.declared.geometry.Geometry.{Geometry}
use Rattle.base_122.specs.declared.wish.DecodeWish.{DecodeWish}

-- ---- the least and the greatest value of a field

abbrev pub IsWithin : FieldRange → ℕ → Type 0
IsWithin range n = (range.least ≤ n) × (n ≤ range.most)

abbrev pub is_within : FieldRange → ℕ → Bool
is_within range n = nat_le range.least n && nat_le n range.most

-- the number of pixels of a row
abbrev pub width_range : FieldRange
width_range = record { least = 17; most = 1048575 }

-- the number of rows of an image
abbrev pub rows_range : FieldRange
rows_range = record { least = 17; most = 262144 }

-- the number of bits of a pixel
abbrev pub depth_range : FieldRange
depth_range = record { least = 1; most = 16 }

-- the number of blocks of a segment
abbrev pub segment_range : FieldRange
segment_range = record { least = 16; most = 1048575 }

-- the number of octets of a segment's text, if there is a limit: 27 bits, and a multiple of each code word length
abbrev pub limit_range : FieldRange
limit_range = record { least = 32; most = 134217724 }

-- the number of octets of a code word
abbrev pub word_range : FieldRange
word_range = record { least = 1; most = 4 }

-- the last bit plane that is sent
abbrev pub plane_range : FieldRange
plane_range = record { least = 0; most = 27 }

-- the last stage that is sent, minus 1
abbrev pub stage_range : FieldRange
stage_range = record { least = 0; most = 3 }

-- the APID: 11 bits, without that of idle packets
abbrev pub apid_range : FieldRange
apid_range = record { least = 0; most = 2046 }

-- the number of an image
abbrev pub image_range : FieldRange
image_range = record { least = 0; most = 65535 }

-- the greatest number of octets of a packet data field
abbrev pub packet_range : FieldRange
packet_range = record { least = 64; most = 65536 }

-- the number of octets of all texts of this number of segments, if there is a bound: at least 36 for each
abbrev pub total_range : (segments : ℕ) → FieldRange
total_range segments = record { least = 36 * segments; most = 2 ^ 40 }

-- the greatest number of pixels of a picture that is decoded
abbrev pub pixels_range : FieldRange
pixels_range = record { least = 0; most = 2 ^ 40 }

-- the number of octets at which reading ends
abbrev pub octets_range : FieldRange
octets_range = record { least = 1; most = 2 ^ 40 }

-- the number of segments of an image of the setting's height
abbrev pub segments_in : Setting → ℕ
segments_in s = segment_count (total_blocks s.width s.rows) s.segment

-- A bound on all texts together is in its range. It replaces a limit, and needs the number of segments.
pub record HasTotal (s : Setting) : Type 0 where
  pub rows : s.rows ≢ 0
  pub limit : s.limit ≡ 0
  pub within : IsWithin (total_range (segments_in s)) s.total

-- Each field is in its range. Rows may be left open; fill has something to fill to.
pub record IsInRange (s : Setting) : Type 0 where
  pub width : IsWithin width_range s.width
  pub rows : (s.rows ≡ 0) ⊎ IsWithin rows_range s.rows
  pub depth : IsWithin depth_range s.depth
  pub segment : IsWithin segment_range s.segment
  pub limit : (s.limit ≡ 0) ⊎ (IsWithin limit_range s.limit × (s.limit % s.word ≡ 0))
  pub fill : s.fill ≡ true → (s.limit ≢ 0) ⊎ (s.total ≢ 0)
  pub word : IsWithin word_range s.word
  pub plane : IsWithin plane_range s.stop.plane
  pub stage : IsWithin stage_range s.stop.stage
  pub weights : All IsShift s.weights.shifts
  pub apid : IsWithin apid_range s.apid
  pub image : IsWithin image_range s.image
  pub packet : IsWithin packet_range s.packet
  pub total : (s.total ≡ 0) ⊎ HasTotal s

-- Each field of a geometry is in its range. Its rows are 0 while the height is not known.
pub record IsGeometryInRange (g : Geometry) : Type 0 where
  pub width : IsWithin width_range g.width
  pub rows : (g.rows ≡ 0) ⊎ IsWithin rows_range g.rows
  pub depth : IsWithin depth_range g.depth
  pub segment : IsWithin segment_range g.segment
  pub image : IsWithin image_range g.image
  pub word : IsWithin word_range g.word
  pub weights : All IsShift g.weights.shifts

-- Each field of a wish is in its range.
pub record IsWishInRange (wish : DecodeWish) : Type 0 where
  pub apid : IsWithin apid_range wish.apid
  pub pixels : IsWithin pixels_range wish.pixels
  pub octets : IsWithin octets_range wish.octets

-- A limit is 0, or in its range and a multiple of the code word length. If the code word length is out of range, the
-- limit needn't be a multiple of it, so that the code word length itself is refused.
abbrev pub limit_test : (limit word : ℕ) → Bool
limit_test limit word = (limit == 0) || (is_within limit_range limit && (not (is_within word_range word) || (limit % word == 0)))

-- A bound on all texts together is 0, or in its range if it may be set. If a segment has no blocks, the bound
-- needn't be in its range, so that the blocks are refused.
abbrev pub total_test : Setting → Bool
total_test s =
    (s.total == 0) || (not (s.rows == 0) && ((s.limit == 0) && ((s.segment == 0) || is_within (total_range (segments_in s)) s.total)))

-- a field passes its test
abbrev pub field_test : Setting → Field → Bool
field_test s Width = is_within width_range s.width
field_test s Rows = (s.rows == 0) || is_within rows_range s.rows
field_test s Depth = is_within depth_range s.depth
field_test s Segment = is_within segment_range s.segment
field_test s Limit = limit_test s.limit s.word
field_test s Fill = not s.fill || (not (s.limit == 0) || not (s.total == 0))
field_test s Word = is_within word_range s.word
field_test s Stop = is_within plane_range s.stop.plane && is_within stage_range s.stop.stage
field_test s Weights = list_all is_shift s.weights.shifts
field_test s Apid = is_within apid_range s.apid
field_test s Image = is_within image_range s.image
field_test s Packet = is_within packet_range s.packet
field_test s Pixels = true
field_test s Octets = true
field_test s Total = total_test s
field_test s Cameras = true

-- the fields of a setting, in the order in which they are tested
abbrev pub fields : List Field
fields = Width ∷ Rows ∷ Depth ∷ Segment ∷ Limit ∷ Fill ∷ Word ∷ Stop ∷ Weights ∷ Apid ∷ Image ∷ Packet ∷ Total ∷ []

-- the first field out of range, if there is one
abbrev pub first_out_of_range : Setting → Option Field
first_out_of_range s = find (λ field. not (field_test s field)) fields

abbrev pub refusal : Option Field → Result (Unit {0}) OutOfRange
refusal None = Ok tt
refusal (Some field) = Err (record { field = field })

-- the result of a check
abbrev pub range_check : Setting → Result (Unit {0}) OutOfRange
range_check s = refusal (first_out_of_range s)
