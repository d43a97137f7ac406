use Rattle.strip_decoder.specs.WalkSteps.{walking, HasPassed, missing}
use Rattle.strip_decoder.proofs.blocks.put_missing_blocks.Given as goal

abbrev pub invariant-loop : goal.invariant-loop
invariant-loop g l = HasPassed g.S.BlockSink.sink missing l.counter (g.X.Port.outside l.initial.port) (g.X.Port.outside l.port) (walking l.initial.walk)
    (walking l.walk)
