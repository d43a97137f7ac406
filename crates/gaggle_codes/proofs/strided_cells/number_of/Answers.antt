use Rattle.std.proofs.Common.{arith}
use Rattle.std.proofs.lemmas.Int.{to_z-of_z}
use Rattle.gaggle_codes.proofs.ScaledNumbers.{scaled_small}
use Rattle.gaggle_codes.proofs.strided_cells.number_of.Goals as goal
use Rattle.std.proofs.lemmas.Grind.{common_steps}

pub scaled-requires-clause-fits : goal.scaled-requires-clause-fits
scaled-requires-clause-fits c = grind (arith, common_steps, to_z-of_z, scaled_small)
