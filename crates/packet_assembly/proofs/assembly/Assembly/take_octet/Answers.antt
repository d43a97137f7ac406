use Rattle.std.proofs.lemmas.Bool.Decides.{nat_tests}
use Rattle.std.proofs.Common.{arith, length, get_or}
use Rattle.packet_assembly.proofs.Giving.{gives_octet, waits_first}
use Rattle.packet_assembly.proofs.assembly.Assembly.take_octet.Goals as goal

pub returns : goal.returns
returns g c = grind (arith, nat_tests, length, get_or, waits_first, gives_octet)
