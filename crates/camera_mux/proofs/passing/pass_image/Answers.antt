use Rattle.std.proofs.Common.{arith}
use Rattle.std.proofs.lemmas.Grind.{common_steps}
use Rattle.packet_assembly.proofs.Ranges.{heights_reported, ranged_past}
use Rattle.camera_mux.proofs.PacketReads.{within_so, state_ranged, put_ranged}
use Rattle.camera_mux.proofs.passing.pass_image.Goals as goal

pub past_kept-requires-clause-height : goal.past_kept-requires-clause-height
past_kept-requires-clause-height c = grind (arith, common_steps, heights_reported)

pub returns-clause-in_range : goal.returns-clause-in_range
returns-clause-in_range c = grind (arith, common_steps, within_so, state_ranged, ranged_past, put_ranged)
