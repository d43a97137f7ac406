use Rattle.std.proofs.Common.{sym, subst}
use Rattle.strip_decoder.specs.WalkSteps.{walking, HasPassed, missing}
use Rattle.strip_decoder.specs.Walks.{left_in}
use Rattle.strip_decoder.proofs.BlockSteps.{none_passed}
use Rattle.strip_decoder.proofs.engine.lose_rest.Goals as goal

pub returns-then-not-known : goal.returns-then-not-known
returns-then-not-known g c =
    let k = g.S.BlockSink.sink in
    let p = walking c.args.walk.now in
    let now = g.X.Port.outside c.args.port.now in
    subst (λ b. HasPassed k missing (left_in b p) now now p p) (sym c.if-not-known.true) (none_passed k missing p now c.requires.current)
