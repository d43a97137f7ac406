use Rattle.packet_assembly.proofs.OneStep.{measure}
use Rattle.strip_decoder.specs.ListProgress.{HasListed}
use Rattle.strip_decoder.proofs.listing.list_packets.Given as goal

abbrev pub invariant-packets : goal.invariant-packets
invariant-packets g l = HasListed l.wish (g.X.Port.outside l.initial.port) (g.X.Port.outside l.port) l.assembly l.packets l.lines.bytes

abbrev pub decreases-packets : goal.decreases-packets
decreases-packets g l = measure l.assembly
