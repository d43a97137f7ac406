use Rattle.std.proofs.Common.{◌-◌, ◌/◌, take, [], ◌∷◌, filter, flat_map}
use Rattle.port_122.specs.Outside.{Exchange, NoRead}
use Rattle.base_122.specs.Sizes.{block_count}
use Rattle.quick_look.specs.Gaps.{gap_rect, gap_rows}
use Rattle.quick_look.specs.RectLines.{rect_lines}
use Rattle.quick_look.specs.Rects.{has_pixels}
use Rattle.quick_look.proofs.rect_lines.give_gap.Given as goal

abbrev pub invariant-loop-block_row : goal.invariant-loop-block_row
invariant-loop-block_row g l =
    Exchange (g.X.Port.outside l.initial.port) (g.X.Port.outside l.port) []
    (flat_map (λ r. rect_lines (filter (has_pixels l.size.rows l.size.width) (gap_rect l.size.rows l.size.width l.gap r ∷ [])))
    (take (l.block_row - l.gap.first / block_count l.size.width) (gap_rows l.size.width l.gap))) [] NoRead
