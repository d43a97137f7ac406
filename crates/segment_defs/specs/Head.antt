-- The octets of a segment's head (CCSDS 122.0-B-2, section 4.2; the patterns of the code word length, the meaning of a
-- limit of 0 and the order of the weights are this project's own).
use Rattle.std.specs.Prelude.{◌≡◌, ◌≤◌, ◌<◌, ◌≢◌, ◌⊎◌, ℕ, ◌*◌, ◌%◌, ◌^◌, ◌-◌, Bool, true, false, if◌then◌else◌, List, [], ◌∷◌, ◌++◌, map, All}
use Rattle.std.specs.List.{flat_map}
use Rattle.std.specs.Str.{bytes_eq}
use Rattle.item_defs.specs.Bits.{digit, bits_of}
use Rattle.base_122.specs.Weights.{usual_shifts}
use Rattle.segment_defs.specs.declared.head.SegmentHead.{SegmentHead}
use Rattle.segment_defs.specs.declared.head.ImagePart.{ImagePart}

-- a field of the head: this number of bits of a value
pub record Field : Type 0 where
  pub width : ℕ
  pub value : ℕ

abbrev pub field : ℕ → ℕ → Field
field width value = record { width = width; value = value }

abbrev pub flag : Bool → Field
flag b = field 1 (digit b)

-- reserved bits are written 0
abbrev pub reserved : ℕ → Field
reserved width = field width 0

-- Part 1A; Parts 2, 3 and 4 are always there
abbrev pub part_1a : SegmentHead → List Field
part_1a h =
    flag h.first ∷ flag h.last ∷ field 8 h.count ∷ field 5 h.depth_dc ∷ field 5 h.depth_ac ∷ reserved 1
    ∷ flag true ∷ flag true ∷ flag true ∷ []

-- Part 1B, only in the last segment
abbrev pub part_1b : SegmentHead → List Field
part_1b h = if h.last then field 3 h.pad_rows ∷ reserved 5 ∷ [] else []

-- Part 2
abbrev pub part_2 : SegmentHead → List Field
part_2 h =
    field 27 h.limit ∷ flag h.stop.dc ∷ field 5 h.stop.plane ∷ field 2 h.stop.stage ∷ flag h.fill ∷ reserved 4 ∷ []

-- Part 3
abbrev pub part_3 : SegmentHead → List Field
part_3 h = field 20 h.blocks ∷ flag h.best_dc ∷ flag h.best_ac ∷ reserved 2 ∷ []

-- the pattern of a code word of 1 to 4 octets
abbrev pub word_pattern : ℕ → ℕ
word_pattern word = 2 * (word - 1)

-- the weights' flag, and two bits for each weight if they are not the usual ones
abbrev pub weight_fields : List ℕ → List Field
weight_fields shifts =
    if bytes_eq shifts usual_shifts then flag false ∷ reserved 20 ∷ [] else flag true ∷ map (field 2) shifts

-- Part 4; a pixel of 16 bits has depth 0 there
abbrev pub part_4 : ImagePart → List Field
part_4 image =
    flag true ∷ reserved 1 ∷ flag false ∷ flag image.signed ∷ field 4 (image.depth % 16) ∷ field 20 image.width
    ∷ flag false ∷ field 3 (word_pattern image.word) ∷ weight_fields image.weights.shifts ++ reserved 11 ∷ []

unfoldable pub head_fields : SegmentHead → List Field
head_fields h = part_1a h ++ part_1b h ++ part_2 h ++ part_3 h ++ part_4 h.image

abbrev pub field_bits : Field → List Bool
field_bits f = bits_of f.width f.value

-- the head's bits
unfoldable pub head_bits : SegmentHead → List Bool
head_bits h = flat_map field_bits (head_fields h)

-- octets of the head: one more in the last segment
abbrev pub head_length : SegmentHead → ℕ
head_length h = if h.last then 20 else 19

-- the values that Part 4 can have
pub record IsImagePart (image : ImagePart) : Type 0 where
  pub depth : (1 ≤ image.depth) × (image.depth ≤ 16)
  pub width : (17 ≤ image.width) × (image.width < 2 ^ 20)
  pub word : (1 ≤ image.word) × (image.word ≤ 4)
  pub weights : All (λ shift. shift ≤ 3) image.weights.shifts

-- Each field has a value that a head can have.
pub record IsHead (h : SegmentHead) : Type 0 where
  pub depth_dc : (1 ≤ h.depth_dc) × (h.depth_dc ≤ 28)
  pub depth_ac : h.depth_ac ≤ 27
  pub pad_rows : h.pad_rows < 8
  pub pads_last : h.last ≡ false → h.pad_rows ≡ 0
  pub limit : (h.limit ≡ 0) ⊎ ((32 ≤ h.limit) × (h.limit < 2 ^ 27) × (h.limit % h.image.word ≡ 0))
  pub plane : h.stop.plane < 32
  pub stage : h.stop.stage < 4
  -- a stop at the DC numbers is written with plane 0 and stage 3
  pub stops_at_dc : h.stop.dc ≡ true → (h.stop.plane ≡ 0) × (h.stop.stage ≡ 3)
  pub fill : h.fill ≡ true → h.limit ≢ 0
  pub blocks : (1 ≤ h.blocks) × (h.blocks < 2 ^ 20)
  pub image : IsImagePart h.image
