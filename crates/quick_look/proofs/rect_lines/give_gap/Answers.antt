use Rattle.std.proofs.Common.{◌≡◌, ◌-◌, ◌/◌, ◌+◌, ◌≤◌, [], ◌∷◌, List, ℕ, arith, sym, subst, take, filter, flat_map}
use Rattle.port_122.specs.Outside.{Exchange, NoRead, WritesAll}
use Rattle.base_122.specs.Sizes.{block_count}
use Rattle.quick_look.specs.declared.gap.Gap.{Gap}
use Rattle.quick_look.specs.Gaps.{gap_rect, gap_rows}
use Rattle.quick_look.specs.RectLines.{rect_lines}
use Rattle.quick_look.specs.Rects.{has_pixels}
use Rattle.quick_look.specs.declared.rect_lines.PictureSize.{PictureSize}
use Rattle.quick_look.proofs.GapParts.{row_at, rows_end}
use Rattle.quick_look.proofs.Written.{given_none, given_more, given_part, given_all, lines_each}
use Rattle.quick_look.proofs.rect_lines.give_gap.Goals as goal

-- the line of the part in a block row
abbrev line : PictureSize → Gap → ℕ → List ℕ
line size gap r = rect_lines (filter (has_pixels size.rows size.width) (gap_rect size.rows size.width gap r ∷ []))

pub loop-block_row-init : goal.loop-block_row-init
loop-block_row-init g c =
    let none : c.args.gap.now.first / c.columns_of-columns.result - c.args.gap.now.first / block_count c.args.size.now.width ≡ 0 =
    rw c.columns_of-columns.ensures (omega arith) in
    rw none (given_none (line c.args.size.now c.args.gap.now) (gap_rows c.args.size.now.width c.args.gap.now) (g.X.Port.outside c.args.port.now))

pub give_part-requires-clause-first : goal.give_part-requires-clause-first
give_part-requires-clause-first g c = rw (sym c.columns_of-columns.ensures) (c.loop-block_row.auto.block_row)

pub give_part-requires-clause-last : goal.give_part-requires-clause-last
give_part-requires-clause-last g c = rw (sym c.columns_of-columns.ensures) (omega arith)

pub returns-in_err-give_part : goal.returns-in_err-give_part
returns-in_err-give_part g c =
    let width = c.args.size.now.width in
    let gap = c.args.gap.now in
    let row = c.loop-block_row.block_row in
    let low : gap.first / block_count width ≤ row = rw (sym c.columns_of-columns.ensures) c.loop-block_row.auto.block_row in
    let high : row ≤ gap.last / block_count width = rw (sym c.columns_of-columns.ensures) (omega arith) in
    let at = row_at width gap row low high in
    subst (WritesAll c.from_residual.result (g.X.Port.outside c.args.port.now) (g.X.Port.outside c.give_part.new.port))
    (lines_each (has_pixels c.args.size.now.rows width) (gap_rect c.args.size.now.rows width gap) (gap_rows width gap))
    (given_part (line c.args.size.now gap) (gap_rows width gap) c.from_residual.result (g.X.Port.outside c.args.port.now)
    (g.X.Port.outside c.loop-block_row.port) (g.X.Port.outside c.give_part.new.port)
    (row - gap.first / block_count width) row c.from_residual.ensures.0 at.0 at.1 c.loop-block_row.invariant c.in_err-give_part.ensures)

pub loop-block_row-preserved : goal.loop-block_row-preserved
loop-block_row-preserved g c =
    let width = c.args.size.now.width in
    let gap = c.args.gap.now in
    let row = c.loop-block_row.block_row in
    let low : gap.first / block_count width ≤ row = rw (sym c.columns_of-columns.ensures) c.loop-block_row.auto.block_row in
    let high : row ≤ gap.last / block_count width = rw (sym c.columns_of-columns.ensures) (omega arith) in
    let at = row_at width gap row low high in
    let next : row - gap.first / block_count width + 1 ≡ row + 1 - gap.first / block_count width = omega (arith, low) in
    subst (λ i. Exchange (g.X.Port.outside c.args.port.now) (g.X.Port.outside c.give_part.new.port) []
    (flat_map (line c.args.size.now gap) (take i (gap_rows width gap))) [] NoRead) next
    (given_more (line c.args.size.now gap) (gap_rows width gap) (g.X.Port.outside c.args.port.now) (g.X.Port.outside c.loop-block_row.port)
    (g.X.Port.outside c.give_part.new.port)
    (row - gap.first / block_count width) row at.0 at.1 c.loop-block_row.invariant c.in_ok-give_part.ensures)

pub returns : goal.returns
returns g c =
    let width = c.args.size.now.width in
    let gap = c.args.gap.now in
    let row = c.loop-block_row.block_row in
    let end : gap.last / block_count width + 1 ≤ row = rw (sym c.columns_of-columns.ensures) (omega arith) in
    subst (λ octets. Exchange (g.X.Port.outside c.args.port.now) (g.X.Port.outside c.loop-block_row.port) [] octets [] NoRead)
    (lines_each (has_pixels c.args.size.now.rows width) (gap_rect c.args.size.now.rows width gap) (gap_rows width gap))
    (given_all (line c.args.size.now gap) (gap_rows width gap) (g.X.Port.outside c.args.port.now) (g.X.Port.outside c.loop-block_row.port)
    (row - gap.first / block_count width) (rows_end width gap row end) c.loop-block_row.invariant)
