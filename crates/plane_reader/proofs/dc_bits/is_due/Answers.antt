use Rattle.std.proofs.Common.{◌≡◌, ◌&&◌, nat_lt, true, false, ap, sym, ◌∙◌, arith}
use Rattle.plane_defs.specs.Sets.{coded}
use Rattle.plane_reader.proofs.dc_bits.is_due.Goals as goal

pub returns-then-has : goal.returns-then-has
returns-then-has c =
    let p = c.args.plan.now in
    let e : coded p.weights.shifts p.plane 0 ≡ true = sym (c.has.ensures (coded p.weights.shifts p.plane) 0 64 p.shown (omega arith)) ∙ c.if-has.true in
    ap (λ b. b && nat_lt p.plane p.q) (sym e)

pub returns-else-has : goal.returns-else-has
returns-else-has c =
    let p = c.args.plan.now in
    let e : coded p.weights.shifts p.plane 0 ≡ false = sym (c.has.ensures (coded p.weights.shifts p.plane) 0 64 p.shown (omega arith)) ∙ c.if-has.false in
    c.if-has.false ∙ ap (λ b. b && nat_lt p.plane p.q) (sym e)
