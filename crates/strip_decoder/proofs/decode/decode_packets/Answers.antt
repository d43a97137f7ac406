use Rattle.strip_decoder.proofs.PictureWalks.{decodes, decode_fails}
use Rattle.strip_decoder.proofs.decode.decode_packets.Goals as goal

pub returns-in-Ok : goal.returns-in-Ok
returns-in-Ok g c = decodes c.args.wish.now (g.X.Port.outside c.args.port.now) (g.X.Port.outside c.walk_segments.new.port) c.in-Ok.walked c.in-Ok.ensures

pub returns-in-Err : goal.returns-in-Err
returns-in-Err g c = decode_fails c.args.wish.now (g.X.Port.outside c.args.port.now) (g.X.Port.outside c.walk_segments.new.port) c.in-Err.fault c.in-Err.ensures
