use Rattle.bare_text.proofs.Filling.{Filled}
use Rattle.bare_text.proofs.read.fill.Given as goal

abbrev pub invariant-loop-place : goal.invariant-loop-place
invariant-loop-place g l = Filled g.I.OctetIn.source l.from l.place l.initial.input l.input l.initial.into l.into
