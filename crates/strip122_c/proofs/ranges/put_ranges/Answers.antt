use Rattle.std.proofs.Common.{arith, sym, ◌∙◌}
use Rattle.damage_rows.proofs.RangeWalk.{valid_next}
use Rattle.strip122_c.proofs.RangesPut.{none_put, more_put, all_put}
use Rattle.strip122_c.proofs.ranges.put_ranges.Goals as goal

pub loop-range-init : goal.loop-range-init
loop-range-init c = none_put c.args.damage.now c.args.places.now

pub overflow_add-count : goal.overflow_add-count
overflow_add-count c =
    let next = valid_next c.args.damage.now c.loop-range.from c.loop-range.invariant.walk c.in-Some.range c.in-Some.ensures in
    let within = next.within in
    let low = next.low in
    let order = next.order in
    omega (arith, within, low, order, c.requires, c.loop-range.invariant.few)

pub overflow_add-from : goal.overflow_add-from
overflow_add-from c =
    let next = valid_next c.args.damage.now c.loop-range.from c.loop-range.invariant.walk c.in-Some.range c.in-Some.ensures in
    let within = next.within in
    omega (arith, within, c.requires)

pub loop-range-smaller : goal.loop-range-smaller
loop-range-smaller c =
    let next = valid_next c.args.damage.now c.loop-range.from c.loop-range.invariant.walk c.in-Some.range c.in-Some.ensures in
    let within = next.within in
    let low = next.low in
    let order = next.order in
    omega (arith, within, low, order)

pub loop-range-preserved : goal.loop-range-preserved
loop-range-preserved c =
    more_put c.args.damage.now c.args.places.now c.loop-range.places c.put_range.new.places c.loop-range.count c.loop-range.from c.in-Some.range
    c.loop-range.invariant c.in-Some.ensures c.put_range.ensures

pub returns-clause-places : goal.returns-clause-places
returns-clause-places c =
    (all_put c.args.damage.now c.args.places.now c.loop-range.places c.loop-range.count c.loop-range.from c.loop-range.invariant
    (sym c.in_default.is ∙ c.next_range.ensures)).places

pub returns-clause-count : goal.returns-clause-count
returns-clause-count c =
    (all_put c.args.damage.now c.args.places.now c.loop-range.places c.loop-range.count c.loop-range.from c.loop-range.invariant
    (sym c.in_default.is ∙ c.next_range.ensures)).counted
