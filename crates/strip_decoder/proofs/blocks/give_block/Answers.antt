use Rattle.std.proofs.Common.{arith, Some}
use Rattle.strip_decoder.specs.WalkSteps.{walking, passed_in}
use Rattle.strip_decoder.proofs.BlockSteps.{one_passed, one_failed, passes_failed}
use Rattle.strip_decoder.proofs.blocks.give_block.Goals as goal

pub returns-in_err-put : goal.returns-in_err-put
returns-in_err-put g c =
    let k = g.S.BlockSink.sink in
    let p = walking c.args.walk.now in
    let fails = c.in_err-put.ensures p.geometry (passed_in p) c.requires.current.valid (omega (arith, c.requires.room)) in
    passes_failed k c.from_residual.result (λ i. Some c.args.numbers.now) 1 _ c.from_residual.ensures.0
    (one_failed k (Some c.args.numbers.now) p p p.sink (g.X.Port.outside c.args.port.now) (g.X.Port.outside c.put.new.port) c.requires.current
    c.requires.room fails)

pub returns : goal.returns
returns g c =
    let k = g.S.BlockSink.sink in
    let p = walking c.args.walk.now in
    let takes = c.in_ok-put.ensures p.geometry (passed_in p) c.requires.current.valid (omega (arith, c.requires.room)) in
    one_passed k (Some c.args.numbers.now) p (walking c.advance.new.walk) c.put.new.self (g.X.Port.outside c.args.port.now)
    (g.X.Port.outside c.put.new.port) c.requires.current c.requires.room takes c.advance.ensures
