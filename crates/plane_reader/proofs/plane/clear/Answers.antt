use Rattle.std.proofs.Common.{arith, get_or, pos, w32}
use Rattle.std.proofs.lemmas.Int.{to_z-of_z}
use Rattle.std.proofs.lemmas.Grind.{common_steps}
use Rattle.plane_reader.proofs.ClearStates.{clears_more, clears_all}
use Rattle.plane_reader.proofs.plane.clear.Goals as goal

pub loop-place-preserved : goal.loop-place-preserved
loop-place-preserved c = grind (arith, common_steps, w32, get_or, pos, to_z-of_z, clears_more)

pub returns : goal.returns
returns c = clears_all c.args.marks.now c.loop-place.marks c.loop-place.place (omega arith) c.loop-place.invariant.depths c.loop-place.invariant.clear
