use Rattle.std.proofs.Common.{arith}
use Rattle.dc_depths.proofs.Parts.{high_coded}
use Rattle.dc_depths.proofs.DepthCells.{every_cell}
use Rattle.dc_depths.proofs.dc.put_high.Goals as goal
use Rattle.std.proofs.lemmas.Grind.{common_steps}

pub returns : goal.returns
returns g c = grind (arith, common_steps, high_coded, every_cell)
