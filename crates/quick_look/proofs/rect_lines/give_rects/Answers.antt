use Rattle.std.proofs.Common.{List, [], ℕ, get_or, arith, subst}
use Rattle.std.proofs.lemmas.List.Elements.{All-get_or}
use Rattle.std.proofs.lemmas.List.{get_or_default}
use Rattle.port_122.specs.Outside.{Exchange, NoRead, WritesAll}
use Rattle.quick_look.specs.declared.gap.Gap.{Gap}
use Rattle.quick_look.specs.Gaps.{gap_rects}
use Rattle.quick_look.specs.RectLines.{rect_lines}
use Rattle.quick_look.specs.declared.rect_lines.PictureSize.{PictureSize}
use Rattle.quick_look.specs.Sizes.{IsWithinImage}
use Rattle.quick_look.proofs.Written.{given_none, given_more, given_part, given_all, lines_all}
use Rattle.quick_look.proofs.rect_lines.give_rects.Goals as goal

-- the lines of a gap
abbrev lines : PictureSize → Gap → List ℕ
lines size gap = rect_lines (gap_rects size.rows size.width gap)

pub loop-gap-init : goal.loop-gap-init
loop-gap-init g c = given_none (lines c.args.size.now) c.args.gaps.now (g.X.Port.outside c.args.port.now)

pub give_gap-requires-clause-within : goal.give_gap-requires-clause-within
give_gap-requires-clause-within g c = All-get_or (IsWithinImage c.args.size.now.width) c.args.gaps.now c.loop-gap.gap-index (record { first = 0; last = 0 })
    (omega arith) c.requires.within

pub returns-in_err-give_gap : goal.returns-in_err-give_gap
returns-in_err-give_gap g c =
    let gap : Gap = get_or c.args.gaps.now c.loop-gap.gap-index (record { first = 0; last = 0 }) in
    subst (WritesAll c.from_residual.result (g.X.Port.outside c.args.port.now) (g.X.Port.outside c.give_gap.new.port))
    (lines_all (gap_rects c.args.size.now.rows c.args.size.now.width) c.args.gaps.now)
    (given_part (lines c.args.size.now) c.args.gaps.now c.from_residual.result (g.X.Port.outside c.args.port.now) (g.X.Port.outside c.loop-gap.port)
    (g.X.Port.outside c.give_gap.new.port) c.loop-gap.gap-index gap
    c.from_residual.ensures.0 (omega arith) (get_or_default c.args.gaps.now c.loop-gap.gap-index _ gap (omega arith)) c.loop-gap.invariant
    c.in_err-give_gap.ensures)

pub loop-gap-preserved : goal.loop-gap-preserved
loop-gap-preserved g c =
    let gap : Gap = get_or c.args.gaps.now c.loop-gap.gap-index (record { first = 0; last = 0 }) in
    given_more (lines c.args.size.now) c.args.gaps.now (g.X.Port.outside c.args.port.now) (g.X.Port.outside c.loop-gap.port)
    (g.X.Port.outside c.give_gap.new.port) c.loop-gap.gap-index gap
    (omega arith) (get_or_default c.args.gaps.now c.loop-gap.gap-index _ gap (omega arith)) c.loop-gap.invariant c.in_ok-give_gap.ensures

pub returns : goal.returns
returns g c =
    subst (λ octets. Exchange (g.X.Port.outside c.args.port.now) (g.X.Port.outside c.loop-gap.port) [] octets [] NoRead)
    (lines_all (gap_rects c.args.size.now.rows c.args.size.now.width) c.args.gaps.now)
    (given_all (lines c.args.size.now) c.args.gaps.now (g.X.Port.outside c.args.port.now) (g.X.Port.outside c.loop-gap.port) c.loop-gap.gap-index
    (omega arith) c.loop-gap.invariant)
