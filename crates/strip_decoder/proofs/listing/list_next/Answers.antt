use Rattle.std.proofs.Common.{arith}
use Rattle.std.proofs.lemmas.Grind.{common_steps}
use Rattle.strip_decoder.proofs.Readings.{read_fault}
use Rattle.strip_decoder.proofs.listing.list_next.Goals as goal

pub returns-in-Err : goal.returns-in-Err
returns-in-Err g c = grind (arith, common_steps, read_fault)
