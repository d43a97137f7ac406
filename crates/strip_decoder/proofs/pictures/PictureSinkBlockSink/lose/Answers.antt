use Rattle.std.proofs.Common.{None}
use Rattle.strip_decoder.proofs.PictureWalks.{picture_takes}
use Rattle.strip_decoder.proofs.pictures.PictureSinkBlockSink.lose.Goals as goal

pub returns : goal.returns
returns g c g' n at within =
    picture_takes c.put_missing.result c.args.self.now (record { picture = c.put_missing.new.picture }) (None) (g.X.Port.outside c.args.port.now)
    (g.X.Port.outside c.put_missing.new.port) c.put_missing.ensures g' n at
