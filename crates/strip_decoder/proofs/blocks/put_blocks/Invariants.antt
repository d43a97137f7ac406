use Rattle.strip_decoder.specs.WalkSteps.{walking, HasPassed, held}
use Rattle.strip_decoder.proofs.blocks.put_blocks.Given as goal

abbrev pub invariant-loop-place : goal.invariant-loop-place
invariant-loop-place g l = HasPassed g.S.BlockSink.sink (held l.blocks) l.place (g.X.Port.outside l.initial.port) (g.X.Port.outside l.port)
    (walking l.initial.walk) (walking l.walk)
