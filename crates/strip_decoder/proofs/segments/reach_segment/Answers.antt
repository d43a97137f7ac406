use Rattle.std.proofs.Common.{arith}
use Rattle.strip_decoder.specs.WalkSteps.{walking}
use Rattle.strip_decoder.proofs.SegmentTakes.{reached_at}
use Rattle.strip_decoder.proofs.RunPasses.{reach_runs}
use Rattle.strip_decoder.proofs.segments.reach_segment.Goals as goal

pub returns-clause-reaches : goal.returns-clause-reaches
returns-clause-reaches g c a at =
    reached_at g.S.BlockSink.sink c.put_missing_blocks.result (g.X.Port.outside c.args.port.now) (g.X.Port.outside c.put_missing_blocks.new.port) a
    (walking c.args.walk.now) (walking c.put_missing_blocks.new.walk) c.args.start.now _ at
    (omega (arith, c.from.ensures, c.passed.ensures)) c.put_missing_blocks.ensures

pub returns-clause-runs : goal.returns-clause-runs
returns-clause-runs g c w a at to =
    reach_runs g.S.BlockSink.sink w (g.X.Port.outside c.args.port.now) (g.X.Port.outside c.put_missing_blocks.new.port) a (walking c.args.walk.now)
    (walking c.put_missing_blocks.new.walk) c.args.start.now _ c.put_missing_blocks.result to at c.requires.current
    (omega (arith, c.from.ensures, c.passed.ensures)) c.put_missing_blocks.ensures
