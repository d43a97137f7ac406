use Rattle.packet_assembly.proofs.PacketSteps.{octets_left}
use Rattle.camera_mux.specs.PickProgress.{HasPicked}
use Rattle.camera_mux.proofs.picking.pick_packets.Given as goal

abbrev pub invariant-packets : goal.invariant-packets
invariant-packets g l = HasPicked l.wish l.image (g.X.Port.outside l.initial.port) (g.X.Port.outside l.port) l.reader l.packets

abbrev pub decreases-packets : goal.decreases-packets
decreases-packets g l = octets_left l.reader
