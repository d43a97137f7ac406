use Rattle.std.proofs.Common.{arith}
use Rattle.std.proofs.lemmas.Grind.{common_steps}
use Rattle.packet_assembly.proofs.Ready.{tails_past, goes_past}
use Rattle.packet_assembly.proofs.text.SegmentTextOctetIn.consume.Goals as goal

pub returns : goal.returns
returns g c = grind (arith, common_steps, tails_past, goes_past)
