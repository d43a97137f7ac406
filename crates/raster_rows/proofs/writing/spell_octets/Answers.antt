use Rattle.std.proofs.Common.{arith}
use Rattle.std.proofs.lemmas.Grind.{common_steps}
use Rattle.raster_rows.proofs.PixelLists.{one_spelt}
use Rattle.raster_rows.proofs.writing.spell_octets.Goals as goal

pub loop-place-preserved : goal.loop-place-preserved
loop-place-preserved c = grind (arith, common_steps, one_spelt)
