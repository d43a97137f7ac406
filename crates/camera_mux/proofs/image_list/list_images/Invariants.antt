use Rattle.packet_assembly.proofs.PacketSteps.{octets_left}
use Rattle.camera_mux.proofs.ImageRuns.{HasTabled}
use Rattle.camera_mux.proofs.image_list.list_images.Given as goal

abbrev pub invariant-packets : goal.invariant-packets
invariant-packets g l = HasTabled l.wish (g.X.Port.outside l.initial.port) (g.X.Port.outside l.port) l.reader l.table.entries.items

abbrev pub decreases-packets : goal.decreases-packets
decreases-packets g l = octets_left l.reader
