use Rattle.std.proofs.Common.{true, arith}
use Rattle.std.proofs.lemmas.Grind.{common_steps}
use Rattle.packet_assembly.proofs.PacketSteps.{over_so, long_so}
use Rattle.camera_mux.proofs.PacketReads.{can_count}
use Rattle.camera_mux.proofs.image_list.take_next.Goals as goal

pub returns-in_default-answer-clause-next : goal.returns-in_default-answer-clause-next
returns-in_default-answer-clause-next g c = grind (arith, common_steps, long_so)

pub returns-then-not-has_packet-clause-next : goal.returns-then-not-has_packet-clause-next
returns-then-not-has_packet-clause-next g c = grind (arith, common_steps, over_so)

pub pass_packet-requires-clause-room : goal.pass_packet-requires-clause-room
pass_packet-requires-clause-room g c = grind (arith, common_steps, true, can_count)
