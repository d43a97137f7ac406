use Rattle.packet_assembly.proofs.TailParts.{reports_parts, none_unbegun, none_passed}
use Rattle.packet_assembly.proofs.laws.tails_report.Goals as goal

pub returns : goal.returns
returns c = record { begun = reports_parts; unbegun = none_unbegun; passed_over = none_passed }
