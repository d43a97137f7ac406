use Rattle.quick_look.proofs.LookWalks.{looks, look_fails}
use Rattle.quick_look.proofs.look.look_packets.Goals as goal

pub returns-in-Ok : goal.returns-in-Ok
returns-in-Ok g c = looks c.args.wish.now (g.X.Port.outside c.args.port.now) (g.X.Port.outside c.walk_segments.new.port) c.in-Ok.walked c.in-Ok.ensures

pub returns-in-Err : goal.returns-in-Err
returns-in-Err g c = look_fails c.args.wish.now (g.X.Port.outside c.args.port.now) (g.X.Port.outside c.walk_segments.new.port) c.in-Err.fault c.in-Err.ensures
