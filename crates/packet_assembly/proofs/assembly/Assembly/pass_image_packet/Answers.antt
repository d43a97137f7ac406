use Rattle.std.proofs.Common.{arith}
use Rattle.std.proofs.lemmas.Grind.{common_steps}
use Rattle.packet_assembly.proofs.HeadLengths.{kept_within}
use Rattle.packet_assembly.proofs.Ranges.{heights_reported, ranged_past}
use Rattle.packet_assembly.proofs.assembly.Assembly.pass_image_packet.Goals as goal

pub invariant_of-self : goal.invariant_of-self
invariant_of-self c = grind (arith, common_steps, kept_within, ranged_past)

pub past_kept-self-inside-requires-clause-height : goal.past_kept-self-inside-requires-clause-height
past_kept-self-inside-requires-clause-height c = grind (arith, common_steps, heights_reported)
