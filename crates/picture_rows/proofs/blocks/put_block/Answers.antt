use Rattle.picture_rows.specs.Pictures.{picture_state}
use Rattle.picture_rows.proofs.BlockPasses.{block_puts}
use Rattle.picture_rows.proofs.blocks.put_block.Goals as goal

pub returns : goal.returns
returns g c =
    block_puts (picture_state c.args.picture.now) c.scatter.new.bands c.args.numbers.now c.requires.current c.requires.room c.scatter.ensures.keeps
    c.scatter.ensures.scattered
    c.pass_block.result (g.X.Port.outside c.args.port.now) (g.X.Port.outside c.pass_block.new.port) (picture_state c.pass_block.new.picture)
    c.pass_block.ensures
