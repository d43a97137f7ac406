use Rattle.std.proofs.Common.{arith, sym, ◌∙◌}
use Rattle.damage_rows.proofs.RangeWalk.{valid_next}
use Rattle.strip_decoder.proofs.LinesGiven.{none_given, given_more, given_part, given_all}
use Rattle.strip_decoder.proofs.find.give_lines.Goals as goal

pub loop-range-init : goal.loop-range-init
loop-range-init g c = none_given c.args.damage.now (g.X.Port.outside c.args.port.now)

pub returns-in_err-give_line : goal.returns-in_err-give_line
returns-in_err-give_line g c =
    given_part c.from_residual.result c.args.damage.now (g.X.Port.outside c.args.port.now) (g.X.Port.outside c.loop-range.port)
    (g.X.Port.outside c.give_line.new.port) c.loop-range.from c.in-Some.range
    c.from_residual.ensures.0 c.loop-range.invariant c.in-Some.ensures c.in_err-give_line.ensures

pub overflow_add-from : goal.overflow_add-from
overflow_add-from g c =
    let next = valid_next c.args.damage.now c.loop-range.from c.loop-range.invariant.walk c.in-Some.range c.in-Some.ensures in
    let within = next.within in
    omega (arith, within, c.requires)

pub loop-range-smaller : goal.loop-range-smaller
loop-range-smaller g c =
    let next = valid_next c.args.damage.now c.loop-range.from c.loop-range.invariant.walk c.in-Some.range c.in-Some.ensures in
    let within = next.within in
    let low = next.low in
    let order = next.order in
    omega (arith, within, low, order)

pub loop-range-preserved : goal.loop-range-preserved
loop-range-preserved g c =
    given_more c.args.damage.now (g.X.Port.outside c.args.port.now) (g.X.Port.outside c.loop-range.port) (g.X.Port.outside c.give_line.new.port)
    c.loop-range.from c.in-Some.range
    c.loop-range.invariant c.in-Some.ensures c.in_ok-give_line.ensures

pub returns : goal.returns
returns g c = given_all c.args.damage.now (g.X.Port.outside c.args.port.now) (g.X.Port.outside c.loop-range.port) c.loop-range.from c.loop-range.invariant
    (sym c.in_default.is ∙ c.next_range.ensures)
