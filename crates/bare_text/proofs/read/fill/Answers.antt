use Rattle.std.proofs.Common.{arith, refl, length-set}
use Rattle.bare_text.proofs.Filling.{one_filled}
use Rattle.bare_text.proofs.read.fill.Goals as goal

pub loop-place-preserved : goal.loop-place-preserved
loop-place-preserved g c = one_filled c.in-Some.octet (omega arith) c.loop-place.invariant (rw c.in-Some.is at c.in_ok-octet.ensures) _ refl
    (length-set c.loop-place.into c.loop-place.place c.in-Some.octet)
