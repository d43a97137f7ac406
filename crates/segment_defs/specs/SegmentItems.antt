-- The items of a segment's text after its head, made only from the values: the DC part, the block depths and the bit
-- planes up to the stop. (CCSDS 122.0-B-2, section 4; the exact place of each stop is this project's own.)
use Rattle.std.specs.Prelude.{ℕ, ◌+◌, ◌-◌, ◌==◌, ℤ, if◌then◌else◌, nat_lt, List, ◌++◌}
use Rattle.std.specs.List.{flat_map}
use Rattle.item_defs.specs.Items.{Item}
use Rattle.number_defs.specs.DcPart.{dc_q, dc_items}
use Rattle.number_defs.specs.Depths.{depth_items}
use Rattle.plane_defs.specs.Spans.{span}
use Rattle.plane_defs.specs.Planes.{Plane}
use Rattle.plane_defs.specs.Reading.{plane_reading}
use Rattle.base_122.specs.Weights.{shift_of}
use Rattle.base_122.specs.declared.book.Book.{Book}
use Rattle.base_122.specs.declared.weights.Band.TheVariants.{Ll3}
use Rattle.segment_defs.specs.declared.head.SegmentHead.{SegmentHead}
use Rattle.segment_defs.specs.Depths.{dcs_of}

-- what a text chooses: the book of its codes, an option for each gaggle of DC numbers and of block depths, and for each
-- plane and gaggle those of words of two, three and four bits
pub record Options : Type 0 where
  pub book : Book
  pub dcs : ℕ → ℕ
  pub depths : ℕ → ℕ
  pub words : ℕ → ℕ → List ℕ

-- the weight of the DC numbers' band
abbrev pub dc_shift : SegmentHead → ℕ
dc_shift head = shift_of head.image.weights.shifts Ll3

-- the low bits of the DC numbers that are left for the planes
abbrev pub q_of : SegmentHead → ℕ
q_of head = dc_q head.depth_dc head.depth_ac (dc_shift head)

-- plane b of these blocks with these depths
abbrev pub plane_at : SegmentHead → List (List ℤ) → List ℕ → ℕ → Plane
plane_at head blocks depths b =
    record { blocks = blocks; depths = depths; weights = head.image.weights.shifts; number = b; q = q_of head }

-- the stages of plane b that are sent: all above the stop's plane, those up to the stop's stage + 1 in it, none below
abbrev pub stages_sent : SegmentHead → ℕ → ℕ
stages_sent head b =
    if nat_lt head.stop.plane b then 5 else if b == head.stop.plane then head.stop.stage + 2 else 0

abbrev pub dc_part_items : SegmentHead → List (List ℤ) → Options → List Item
dc_part_items head blocks options = dc_items head.depth_dc head.depth_ac (dc_shift head) (dcs_of blocks) options.dcs

-- the nth plane from the top
abbrev pub nth_plane : SegmentHead → ℕ → ℕ
nth_plane head n = head.depth_ac - (n + 1)

abbrev pub nth_plane_items : SegmentHead → List (List ℤ) → List ℕ → Options → ℕ → List Item
nth_plane_items head blocks depths options n =
    let b = nth_plane head n in
    plane_reading options.book (options.words b) (plane_at head blocks depths b) (stages_sent head b)

-- the first n planes from the top
abbrev pub planes_items : SegmentHead → List (List ℤ) → List ℕ → Options → ℕ → List Item
planes_items head blocks depths options n = flat_map (nth_plane_items head blocks depths options) (span 0 n)

-- the block depths and all planes; none of them if the text stops at the DC numbers
abbrev pub items_after_dc : SegmentHead → List (List ℤ) → List ℕ → Options → List Item
items_after_dc head blocks depths options =
    depth_items head.depth_ac depths options.depths ++ planes_items head blocks depths options head.depth_ac

unfoldable pub segment_items : SegmentHead → List (List ℤ) → List ℕ → Options → List Item
segment_items head blocks depths options =
    if head.stop.dc
    then dc_part_items head blocks options
    else dc_part_items head blocks options ++ items_after_dc head blocks depths options
