use Rattle.std.proofs.Common.{to_z, of_z, w32}
use Rattle.std.proofs.Common.{arith}
use Rattle.std.proofs.lemmas.Grind.{common_steps}
use Rattle.raster_rows.proofs.PieceRuns.{one_tested}
use Rattle.raster_rows.proofs.reading.are_in_range.Goals as goal

pub loop-place-preserved : goal.loop-place-preserved
loop-place-preserved c = grind (arith, common_steps, one_tested, to_z, w32, of_z)
