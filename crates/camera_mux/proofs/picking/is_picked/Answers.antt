use Rattle.std.proofs.Common.{arith}
use Rattle.packet_defs.proofs.Prefixes.{known_least}
use Rattle.camera_mux.proofs.picking.is_picked.Goals as goal

pub read_u16-requires : goal.read_u16-requires
read_u16-requires c = omega (arith, c.requires.whole, known_least c.args.packet.now)
