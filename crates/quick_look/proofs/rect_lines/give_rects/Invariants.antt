use Rattle.std.proofs.Common.{take, [], flat_map}
use Rattle.port_122.specs.Outside.{Exchange, NoRead}
use Rattle.quick_look.specs.Gaps.{gap_rects}
use Rattle.quick_look.specs.RectLines.{rect_lines}
use Rattle.quick_look.proofs.rect_lines.give_rects.Given as goal

abbrev pub invariant-loop-gap : goal.invariant-loop-gap
invariant-loop-gap g l = Exchange (g.X.Port.outside l.initial.port) (g.X.Port.outside l.port) []
    (flat_map (λ gap. rect_lines (gap_rects l.size.rows l.size.width gap)) (take l.gap-index l.gaps)) [] NoRead
