use Rattle.std.proofs.Common.{inl, refl}
use Rattle.bare_stream.proofs.InputSteps.{filled_ready, filled_waits, none_waits}
use Rattle.bare_stream.proofs.input.PortIn.make_ready.Goals as goal

pub returns-then-self-clause-ready : goal.returns-then-self-clause-ready
returns-then-self-clause-ready g c = inl (refl, c.if-self.true)

pub returns-clause-ready : goal.returns-clause-ready
returns-clause-ready g c = filled_ready g.X.Port.outside c.args.self.now c.fill.new.self (none_waits c.args.self.now c.if-self.false) c.fill.result
    c.fill.ensures.fills

pub returns-clause-waits : goal.returns-clause-waits
returns-clause-waits g c e = filled_waits g.X.Port.outside c.args.self.now c.fill.new.self (none_waits c.args.self.now c.if-self.false) c.fill.result e
    c.fill.ensures.fills
