-- A segment's text after its head, as it is read. (docs/formats.md, "Stops, cut and fill" and "Reading a segment"; CCSDS 122.0-B-2,
-- section 4.)
use Rattle.std.specs.Prelude.{ℕ, ℤ, pos, List, ◌∷◌, map, replicate, if◌then◌else◌}
use Rattle.base_122.specs.declared.book.Book.{Book}
use Rattle.plane_defs.specs.Spans.{span}
use Rattle.segment_defs.specs.declared.head.SegmentHead.{SegmentHead}
use Rattle.segment_defs.specs.SegmentItems.{dc_shift, q_of, stages_sent}
use Rattle.item_defs.specs.Scripts.{Script, done, then_ask, around, beside}
use Rattle.number_defs.specs.DcScript.{dc_script}
use Rattle.number_defs.specs.DepthScript.{depths_script}
use Rattle.plane_defs.specs.PlaneScript.{planes_script}

-- `count` blocks with these DC numbers, and 0 for the others
abbrev pub dc_blocks : (count : ℕ) → (ℕ → ℤ) → List (List ℤ)
dc_blocks count dcs = map (λ r. dcs r ∷ replicate 63 (pos 0)) (span 0 count)

-- the DC part of a segment
abbrev pub dc_part_script : SegmentHead → Script (List (List ℤ)) (List (List ℤ))
dc_part_script head = around (dc_blocks head.blocks) (dc_script head.depth_dc head.depth_ac (dc_shift head) head.blocks)

-- the bit planes of blocks of these depths, from BitDepthAC - 1 down to the stop
abbrev pub planes_part_script : Book → SegmentHead → (blocks : List (List ℤ)) → (depths : List ℕ) → Script (List (List ℤ)) (List (List ℤ))
planes_part_script book head blocks depths = planes_script book head.image.weights.shifts (q_of head) depths (stages_sent head) head.depth_ac blocks

-- a text that stops at the DC numbers ends after the DC part; otherwise the block depths follow, and then the bit planes
abbrev pub segment_script : Book → SegmentHead → Script (List (List ℤ)) (List (List ℤ))
segment_script book head =
    then_ask (dc_part_script head) (λ blocks.
    if head.stop.dc then done blocks else
    then_ask (beside blocks (depths_script head.depth_ac head.blocks)) (planes_part_script book head blocks))
