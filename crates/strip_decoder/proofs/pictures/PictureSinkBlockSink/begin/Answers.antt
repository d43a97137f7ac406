use Rattle.strip_decoder.proofs.PictureWalks.{picture_begins}
use Rattle.strip_decoder.proofs.pictures.PictureSinkBlockSink.begin.Goals as goal

pub returns : goal.returns
returns c = picture_begins (record { picture = c.in_ok-picture.picture }) c.args.geometry.now c.in_ok-picture.ensures
