use Rattle.picture_rows.specs.Pictures.{picture_state}
use Rattle.picture_rows.proofs.BlockPasses.{block_loses}
use Rattle.picture_rows.proofs.blocks.put_missing.Goals as goal

pub returns : goal.returns
returns g c =
    block_loses c.pass_block.result (picture_state c.args.picture.now) (picture_state c.pass_block.new.picture) (g.X.Port.outside c.args.port.now)
    (g.X.Port.outside c.pass_block.new.port) c.requires.current c.pass_block.ensures
