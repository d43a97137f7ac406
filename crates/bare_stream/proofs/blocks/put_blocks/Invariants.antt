use Rattle.picture_rows.specs.Pictures.{picture_state}
use Rattle.bare_stream.specs.Blocks.{HasPutBlocks}
use Rattle.bare_stream.proofs.blocks.put_blocks.Given as goal

abbrev pub invariant-loop-place : goal.invariant-loop-place
invariant-loop-place g l = HasPutBlocks l.blocks l.place (g.X.Port.outside l.initial.port) (g.X.Port.outside l.port) (picture_state l.initial.picture)
    (picture_state l.picture)
