use Rattle.std.proofs.Common.{arith, sym, ◌∙◌}
use Rattle.damage_rows.proofs.RangeWalk.{valid_next}
use Rattle.strip122.proofs.DamageParts.{none_noted, noted_more, noted_part, noted_all}
use Rattle.strip122.proofs.damage_notes.note_each.Goals as goal

pub loop-range-init : goal.loop-range-init
loop-range-init g c = none_noted c.args.damage.now (g.X.Port.outside c.args.port.now)

pub returns-in_err-note_range : goal.returns-in_err-note_range
returns-in_err-note_range g c =
    noted_part c.from_residual.result c.args.damage.now (g.X.Port.outside c.args.port.now) (g.X.Port.outside c.loop-range.port)
    (g.X.Port.outside c.note_range.new.port) c.loop-range.from c.in-Some.range
    c.from_residual.ensures.0 c.loop-range.invariant c.in-Some.ensures c.in_err-note_range.ensures

pub overflow_add-from : goal.overflow_add-from
overflow_add-from g c =
    let next = valid_next c.args.damage.now c.loop-range.from c.loop-range.invariant.walk c.in-Some.range c.in-Some.ensures in
    let within = next.within in
    omega (arith, within, c.requires)

pub loop-range-smaller : goal.loop-range-smaller
loop-range-smaller g c =
    let next = valid_next c.args.damage.now c.loop-range.from c.loop-range.invariant.walk c.in-Some.range c.in-Some.ensures in
    let within = next.within in
    let low = next.low in
    let order = next.order in
    omega (arith, within, low, order)

pub loop-range-preserved : goal.loop-range-preserved
loop-range-preserved g c =
    noted_more c.args.damage.now (g.X.Port.outside c.args.port.now) (g.X.Port.outside c.loop-range.port) (g.X.Port.outside c.note_range.new.port)
    c.loop-range.from c.in-Some.range
    c.loop-range.invariant c.in-Some.ensures c.in_ok-note_range.ensures

pub returns : goal.returns
returns g c = noted_all c.args.damage.now (g.X.Port.outside c.args.port.now) (g.X.Port.outside c.loop-range.port) c.loop-range.from c.loop-range.invariant
    (sym c.in_default.is ∙ c.next_range.ensures)
