use Rattle.std.proofs.Common.{ap, subst, is_some}
use Rattle.strip_decoder.specs.WalkSteps.{walking, HasPassed, StopsEarly, missing}
use Rattle.strip_decoder.specs.Walks.{left_in}
use Rattle.strip_decoder.proofs.RunFinishes.{rest_broken, rest_passed_of}
use Rattle.strip_decoder.proofs.engine.pass_all.Goals as goal

pub returns-in-Ok-lose_rest-clause-runs : goal.returns-in-Ok-lose_rest-clause-runs
returns-in-Ok-lose_rest-clause-runs g c w pixels texts to =
    let k = g.S.BlockSink.sink in
    let now = g.X.Port.outside c.take_segments.new.port in
    let new = g.X.Port.outside c.lose_rest.new.port in
    let p = walking c.take_segments.new.walk in
    let q = walking c.lose_rest.new.walk in
    rest_passed_of k w now new c.take_segments.new.assembly p q c.in-Ok.ensures.takes.current (c.in-Ok.ensures.runs w pixels texts to)
    (subst (λ b. HasPassed k missing (left_in b p) now new p q) c.is_height_known.ensures c.in-Ok-lose_rest.ensures)

pub returns-in-Err-lose_rest-clause-runs : goal.returns-in-Err-lose_rest-clause-runs
returns-in-Err-lose_rest-clause-runs g c w pixels texts to =
    let k = g.S.BlockSink.sink in
    let now = g.X.Port.outside c.take_segments.new.port in
    let new = g.X.Port.outside c.lose_rest.new.port in
    let p = walking c.take_segments.new.walk in
    rest_broken k w now new c.take_segments.new.assembly p (walking c.lose_rest.new.walk) c.in-Ok.ensures.takes.current (c.in-Ok.ensures.runs w pixels texts to)
    (subst (λ b. StopsEarly k missing (left_in b p) now new p) c.is_height_known.ensures c.in-Err-lose_rest.ensures)

pub returns-in-Ok-lose_rest-clause-image : goal.returns-in-Ok-lose_rest-clause-image
returns-in-Ok-lose_rest-clause-image g c = ap is_some c.in-Ok.ensures.takes.has.geometry
