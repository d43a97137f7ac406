use Rattle.std.proofs.Common.{arith}
use Rattle.std.proofs.lemmas.Grind.{common_steps}
use Rattle.space_packets.proofs.Intakes.{no_begin, verdict_ended, verdict_cut, answered_none}
use Rattle.space_packets.proofs.packet_reader.PacketReader.answer.Goals as goal

pub returns-then-has_bad_version-clause-valid : goal.returns-then-has_bad_version-clause-valid
returns-then-has_bad_version-clause-valid c = grind (arith, common_steps, answered_none, no_begin)

pub returns-then-is_empty-clause-answer : goal.returns-then-is_empty-clause-answer
returns-then-is_empty-clause-answer c = grind (arith, common_steps, verdict_ended)

pub returns-clause-answer : goal.returns-clause-answer
returns-clause-answer c = grind (arith, common_steps, verdict_cut)
