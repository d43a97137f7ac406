-- The part of its values that a text gives, and the range of what is given. (docs/formats.md, "Stops, cut and fill" and "Reading a
-- segment"; this project's own.)
use Rattle.std.specs.Prelude.{◌≡◌, ◌⊎◌, ◌≤◌, ◌<◌, ℕ, ◌+◌, ◌^◌, ◌||◌, if◌then◌else◌, nat_le, ℤ, pos, ◌*ℤ◌, unsigned_abs, List, [], ◌++◌, length, slice_index_or}
use lib.ListN.{get_or}
use Rattle.plane_defs.specs.Sets.{magnitude, shift}
use Rattle.segment_defs.specs.declared.head.SegmentHead.{SegmentHead}
use Rattle.segment_defs.specs.Depths.{dcs_of}
use Rattle.number_defs.specs.DcPart.{dc_planes}
use Rattle.item_defs.specs.Items.{Item}
use Rattle.number_defs.specs.Depths.{depth_items}
use Rattle.segment_defs.specs.SegmentItems.{Options, dc_shift, q_of, stages_sent, dc_part_items}
use Rattle.number_defs.specs.ScriptLaws.{given_part}
use Rattle.number_defs.specs.Cuts.{AreDcsCut}
use Rattle.plane_defs.specs.Cuts.{after_all, cut_blocks, AreCut, CutAfter}
use Rattle.segment_defs.specs.Segments.{dc_blocks}

-- only DC numbers, cut at a place of the DC part
pub record HasDcs (head : SegmentHead) (values blocks : List (List ℤ)) : Type 0 where
  pub dcs : ℕ → ℤ
  pub cut : AreDcsCut (q_of head) (dc_planes head.depth_dc head.depth_ac (dc_shift head)) head.blocks (dcs_of values) dcs
  pub is : blocks ≡ dc_blocks head.blocks dcs

-- all AC magnitudes are below 2 ^ BitDepthAC
abbrev pub AreDeep : SegmentHead → List (List ℤ) → Type 0
AreDeep head values = (r p : ℕ) → 1 ≤ p → magnitude (get_or values r []) p < 2 ^ head.depth_ac

-- the values, cut in the bit planes after these items of the text
pub record HasPlanes (head : SegmentHead) (values : List (List ℤ)) (depths : List ℕ) (options : Options) (items : List Item)
    (blocks : List (List ℤ)) : Type 0 where
  pub planes : List Item
  pub after : CutAfter options.book options.words values depths head.image.weights.shifts (q_of head) (stages_sent head) head.depth_ac planes blocks
  pub is : items ≡ dc_part_items head values options ++ (depth_items head.depth_ac depths options.depths ++ planes)

-- only DC numbers; or all numbers, or those that are cut at a place of the bit planes
abbrev pub IsPart : SegmentHead → (values blocks : List (List ℤ)) → Type 0
IsPart head values blocks =
    HasDcs head values blocks
    ⊎ (AreDeep head values × ((blocks ≡ values) ⊎ AreCut head.image.weights.shifts (q_of head) values head.depth_ac blocks))

-- what a text of which all items are given gives of its values: only the DC numbers of the DC part, or the values, cut at the stop
abbrev pub stopped : SegmentHead → (values : List (List ℤ)) → List (List ℤ)
stopped head values =
    if head.stop.dc || nat_le head.depth_ac head.stop.plane
    then dc_blocks head.blocks
    (λ r. given_part (q_of head) (dc_planes head.depth_dc head.depth_ac (dc_shift head)) (slice_index_or (dcs_of values) r (pos 0)))
    else cut_blocks head.image.weights.shifts (q_of head) values head.stop.plane (after_all (head.stop.stage + 2))

-- a multiple of 2 ^ shift, by at most 2 ^ 27 in magnitude
pub record IsWeighted (shift : ℕ) (z : ℤ) : Type 0 where
  pub part : ℤ
  pub is : z ≡ part *ℤ pos (2 ^ shift)
  pub small : unsigned_abs part ≤ 2 ^ 27

-- the head's number of blocks, each of 64 such numbers
pub record AreWeighted (head : SegmentHead) (blocks : List (List ℤ)) : Type 0 where
  pub count : length blocks ≡ head.blocks
  pub long : (r : ℕ) → r < head.blocks → length (get_or blocks r []) ≡ 64
  pub each : (r i : ℕ) → r < head.blocks → i < 64 → IsWeighted (shift head.image.weights.shifts i) (get_or (get_or blocks r []) i (pos 0))
