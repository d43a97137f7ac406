use Rattle.std.proofs.Common.{arith, ap}
use Rattle.stream_defs.specs.Agreement.{blocks_of}
use Rattle.strip_decoder.specs.WalkSteps.{walking, missing}
use Rattle.strip_decoder.proofs.BlockSteps.{none_passed, passed_then, failed_then, passes_failed}
use Rattle.strip_decoder.proofs.blocks.put_missing_blocks.Goals as goal

pub loop-init : goal.loop-init
loop-init g c = none_passed g.S.BlockSink.sink missing (walking c.args.walk.now) (g.X.Port.outside c.args.port.now) c.requires.current

pub put_missing-requires-clause-current : goal.put_missing-requires-clause-current
put_missing-requires-clause-current g c = c.loop.invariant.current

pub put_missing-requires-clause-room : goal.put_missing-requires-clause-room
put_missing-requires-clause-room g c = let total =
    ap blocks_of c.loop.invariant.geometry in omega (arith, total, c.loop.invariant.count, c.loop-test.true, c.requires.room)

pub returns-in_err-put_missing : goal.returns-in_err-put_missing
returns-in_err-put_missing g c =
    passes_failed g.S.BlockSink.sink c.from_residual.result missing c.args.count _ c.from_residual.ensures.0
    (failed_then g.S.BlockSink.sink missing c.loop.counter (walking c.args.walk.now) (walking c.loop.walk) c.loop.invariant {c =
    g.X.Port.outside c.put_missing.new.port} c.args.count c.loop-test.true c.in_err-put_missing.ensures)

pub loop-preserved : goal.loop-preserved
loop-preserved g c =
    passed_then g.S.BlockSink.sink missing c.loop.counter (walking c.args.walk.now) (walking c.loop.walk) c.loop.invariant {c =
    g.X.Port.outside c.put_missing.new.port} (walking c.put_missing.new.walk) c.in_ok-put_missing.ensures
