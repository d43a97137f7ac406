-- What a segment's text gives of each number. (docs/formats.md, "Stops, cut and fill" and "Reading a segment"; this project's own.)
use Rattle.std.specs.Prelude.{ℕ, ◌==◌, if◌then◌else◌, List, None, Result}
use Rattle.base_122.specs.declared.book.Book.{Book}
use Rattle.segment_defs.specs.declared.head.SegmentHead.{SegmentHead}
use Rattle.segment_defs.specs.SegmentItems.{dc_shift, q_of, stages_sent}
use Rattle.item_defs.specs.Scripts.{Script, done, then_ask, around, beside, run}
use Rattle.number_defs.specs.DcLows.{DcGiven, dc_given}
use Rattle.number_defs.specs.DepthScript.{depths_script}
use Rattle.plane_defs.specs.Lows.{Given, planes_given}
use Rattle.segment_defs.specs.Outcomes.{SegmentRefusal, bits_read}
use Rattle.segment_defs.specs.Segments.{dc_blocks}
use Rattle.segment_defs.specs.TextOutcome.{verdict}

-- `count` blocks with these DC numbers, of which nothing else is given
abbrev pub dc_blocks_given : (count : ℕ) → DcGiven → Given
dc_blocks_given count d = record { numbers = dc_blocks count d.dcs; lows = λ r p. if p == 0 then d.lows r else None }

-- `dc_part_script`, `planes_part_script` and `segment_script`, with what is given of each number
abbrev pub dc_part_given : SegmentHead → Script Given Given
dc_part_given head = around (dc_blocks_given head.blocks) (dc_given head.depth_dc head.depth_ac (dc_shift head) head.blocks)

abbrev pub planes_part_given : Book → SegmentHead → Given → (depths : List ℕ) → Script Given Given
planes_part_given book head g depths = planes_given book head.image.weights.shifts (q_of head) depths (stages_sent head) head.depth_ac g

abbrev pub segment_given : Book → SegmentHead → Script Given Given
segment_given book head =
    then_ask (dc_part_given head) (λ g.
    if head.stop.dc then done g else
    then_ask (beside g (depths_script head.depth_ac head.blocks)) (planes_part_given book head g))

-- what a text of this head gives, with these octets after the head, or the name by which it is refused
abbrev pub text_given : Book → SegmentHead → (rest : List ℕ) → Result Given SegmentRefusal
text_given book head rest = verdict head rest (run (segment_given book head) (bits_read head rest))
