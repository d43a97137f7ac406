use Rattle.std.proofs.Common.{rules, arith, ◌≡◌, subst}
use Rattle.port_122.specs.Outside.{Read}
use Rattle.code_book.specs.Filling.{FilledTo}
use Rattle.code_book.proofs.Fillings.{fill_start, fill_next, fill_unread, fill_short}
use Rattle.code_book.proofs.read.fill.Goals as goal

pub loop-filled-init : goal.loop-filled-init
loop-filled-init g c = fill_start (g.X.Port.outside c.args.port.now) c.args.octets.now c.requires

pub returns-in_default : goal.returns-in_default
returns-in_default g c = fill_unread c.loop-filled.invariant c.loop-filled-test.true c.in_default.ensures

pub returns-then-count-eq0 : goal.returns-then-count-eq0
returns-then-count-eq0 g c =
    let h = c.read.auto.into in
    let none : Read _ _ c.read.new.into 0 = rw (c.if-count-eq0.true) at c.in-Ok.ensures in
    fill_short c.loop-filled.invariant c.loop-filled-test.true none (search rules)

pub loop-filled-preserved : goal.loop-filled-preserved
loop-filled-preserved g c =
    let h = c.read.auto.into in
    fill_next _ c.loop-filled.invariant c.loop-filled-test.true c.in-Ok.ensures (search rules) (search rules)

pub returns : goal.returns
returns g c =
    let p = c.loop-filled.invariant in
    let whole : c.loop-filled.filled ≡ 138 = omega (arith, p.within, c.loop-filled-test.false) in
    subst (λ n. FilledTo (g.X.Port.outside c.args.port.now) (g.X.Port.outside c.loop-filled.port) c.loop-filled.octets n) whole p
