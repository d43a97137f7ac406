use Rattle.std.proofs.Common.{Some}
use Rattle.strip_decoder.proofs.PictureWalks.{picture_takes}
use Rattle.strip_decoder.proofs.pictures.PictureSinkBlockSink.put.Goals as goal

pub returns : goal.returns
returns g c g' n at within =
    picture_takes c.put_block.result c.args.self.now (record { picture = c.put_block.new.picture }) (Some c.args.numbers.now)
    (g.X.Port.outside c.args.port.now) (g.X.Port.outside c.put_block.new.port) c.put_block.ensures g' n at
