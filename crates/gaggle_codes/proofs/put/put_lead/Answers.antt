use Rattle.gaggle_codes.proofs.GaggleParts.{lead_later}
use Rattle.gaggle_codes.proofs.put.put_lead.Goals as goal
use Rattle.std.proofs.Common.{arith}
use Rattle.std.proofs.lemmas.Grind.{common_steps}

pub returns-then-gaggle-gt0 : goal.returns-then-gaggle-gt0
returns-then-gaggle-gt0 g c = grind (arith, common_steps, lead_later)
