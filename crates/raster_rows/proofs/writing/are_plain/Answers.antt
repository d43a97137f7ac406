use Rattle.std.proofs.Common.{arith, pos, get_or, below_more, w64, of_z}
use Rattle.std.proofs.lemmas.Int.{to_z-of_z}
use Rattle.std.proofs.lemmas.Nat.{le_or_l, le_or_r}
use Rattle.std.proofs.lemmas.Grind.{common_steps}
use Rattle.raster_rows.proofs.Plain.{all_plain}
use Rattle.raster_rows.proofs.writing.are_plain.Goals as goal

pub loop-value-preserved : goal.loop-value-preserved
loop-value-preserved c = grind (arith, common_steps, get_or, pos, w64, of_z, to_z-of_z, below_more, le_or_l, le_or_r)

pub returns : goal.returns
returns c = grind (arith, common_steps, all_plain)
