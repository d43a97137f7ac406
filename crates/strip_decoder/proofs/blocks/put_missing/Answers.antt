use Rattle.std.proofs.Common.{arith, subst, None}
use Rattle.stream_defs.specs.Marks.{Marks}
use Rattle.strip_decoder.specs.WalkSteps.{Walking, walking, HasAdvanced, missing, passed_in}
use Rattle.strip_decoder.proofs.BlockSteps.{one_passed, one_failed, passes_failed}
use Rattle.strip_decoder.proofs.blocks.put_missing.Goals as goal

abbrev with_marks : {S : Type 0} → Walking S → S → Marks → Walking S
with_marks p sink damage = record p { sink = sink; damage = damage }

pub returns-in_err-lose : goal.returns-in_err-lose
returns-in_err-lose g c =
    let k = g.S.BlockSink.sink in
    let p = walking c.args.walk.now in
    let fails = c.in_err-lose.ensures p.geometry (passed_in p) c.requires.current.valid (omega (arith, c.requires.room)) in
    passes_failed k c.from_residual.result missing 1 _ c.from_residual.ensures.0
    (one_failed k None p p p.sink (g.X.Port.outside c.args.port.now) (g.X.Port.outside c.lose.new.port) c.requires.current c.requires.room fails)

pub returns : goal.returns
returns g c =
    let k = g.S.BlockSink.sink in
    let p = walking c.args.walk.now in
    let takes = c.in_ok-lose.ensures p.geometry (passed_in p) c.requires.current.valid (omega (arith, c.requires.room)) in
    one_passed k None p (walking c.advance.new.walk) c.lose.new.self (g.X.Port.outside c.args.port.now) (g.X.Port.outside c.lose.new.port)
    c.requires.current c.requires.room takes
    (subst (λ m. HasAdvanced (with_marks p c.lose.new.self m) (walking c.advance.new.walk)) c.miss.ensures c.advance.ensures)
