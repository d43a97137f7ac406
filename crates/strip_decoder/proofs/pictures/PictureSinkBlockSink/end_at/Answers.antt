use Rattle.strip_decoder.proofs.PictureWalks.{picture_ends}
use Rattle.strip_decoder.proofs.pictures.PictureSinkBlockSink.end_at.Goals as goal

pub returns : goal.returns
returns c g n at ends = picture_ends c.args.self.now (record { picture = c.end_at.new.self }) c.args.geometry.now c.end_at.ensures g n at ends
