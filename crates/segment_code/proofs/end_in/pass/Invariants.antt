use Rattle.segment_code.proofs.EndOctets.{HaveArrived}
use Rattle.segment_code.proofs.end_in.pass.Given as goal

abbrev pub invariant-loop : goal.invariant-loop
invariant-loop g l = HaveArrived g.I.OctetIn.source l.counter l.initial.input l.input
