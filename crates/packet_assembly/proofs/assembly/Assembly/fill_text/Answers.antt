use Rattle.std.proofs.Common.{◌≡◌, sym, ap, ◌∙◌, false, is_some}
use Rattle.packet_assembly.specs.Assembling.{Assembling, is_closed}
use Rattle.packet_assembly.proofs.OneStep.{one_on}
use Rattle.packet_assembly.proofs.Filling.{filled_nothing, filled_held, not_some, filled_more, filled_other, filled_end, filled_failed}
use Rattle.packet_assembly.proofs.assembly.Assembly.fill_text.Goals as goal

pub returns-then-is_some : goal.returns-then-is_some
returns-then-is_some g c =
    filled_held (g.X.Port.outside c.args.port.now) c.args.self.now (sym (ap (λ (a : Assembling). is_some a.held) c.self.view_is) ∙ sym c.is_some.ensures ∙
    c.if-is_some.true)

pub loop-self-init : goal.loop-self-init
loop-self-init g c =
    filled_nothing (g.X.Port.outside c.args.port.now) c.args.self.now
    (sym (ap (λ (a : Assembling). a.held) c.self.view_is) ∙ not_some c.self.inside.held (sym c.is_some.ensures ∙ c.if-is_some.false))

pub loop-self-preserved : goal.loop-self-preserved
loop-self-preserved g c =
    let going : is_closed c.loop-self.self.state.last ≡ false = sym c.is_closed.ensures ∙ c.if-is_closed.false in
    filled_more c.loop-self.invariant c.loop-self-test.ensures going (rw c.in-Ok-Some.field-0-is at c.in-Ok-Some.ensures) c.in_default.is

pub loop-self-smaller : goal.loop-self-smaller
loop-self-smaller g c = (one_on {P = λ s. Unit {0}} (rw c.in-Ok-Some.field-0-is at c.in-Ok-Some.ensures) tt).less

pub returns-in-Some : goal.returns-in-Some
returns-in-Some g c =
    let going : is_closed c.loop-self.self.state.last ≡ false = sym c.is_closed.ensures ∙ c.if-is_closed.false in
    let next = rw (← c.self-in-loop-self.view_is, c.in-Ok-Some.field-0-is) at c.in-Ok-Some.ensures in
    filled_other c.loop-self.invariant c.loop-self-test.ensures going next c.in-Some.start c.in-Some.is

pub returns-in-Ok-None : goal.returns-in-Ok-None
returns-in-Ok-None g c =
    let going : is_closed c.loop-self.self.state.last ≡ false = sym c.is_closed.ensures ∙ c.if-is_closed.false in
    filled_end c.loop-self.invariant c.loop-self-test.ensures going (rw c.in-Ok-None.field-0-is at c.in-Ok-None.ensures)

pub returns-in-Err : goal.returns-in-Err
returns-in-Err g c =
    let going : is_closed c.loop-self.self.state.last ≡ false = sym c.is_closed.ensures ∙ c.if-is_closed.false in
    filled_failed c.loop-self.invariant c.loop-self-test.ensures going c.in-Err.fault c.in-Err.ensures
