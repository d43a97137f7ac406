use Rattle.std.proofs.Common.{arith}
use Rattle.bit_pipe.proofs.Putting.{adds_start, puts_whole}
use Rattle.dc_depths.proofs.DepthCells.{heights_are, marks_in_range}
use Rattle.number_defs.proofs.Equations.{depths_none, depths_raw, depths_coded}
use Rattle.dc_depths.proofs.depths.put_depths.Goals as goal
use Rattle.std.proofs.lemmas.Grind.{common_steps}

pub put_values-requires-clause-in_range : goal.put_values-requires-clause-in_range
put_values-requires-clause-in_range g c = marks_in_range c.depth_bits_of.result c.args.depth_ac c.args.marks.now c.depth_bits_of.ensures.holds c.requires.depths

pub returns-in-0 : goal.returns-in-0
returns-in-0 g c = grind (arith, common_steps, depths_none, puts_whole, adds_start)

pub returns-in-1 : goal.returns-in-1
returns-in-1 g c = grind (arith, common_steps, depths_raw)

pub returns-in_default : goal.returns-in_default
returns-in_default g c = grind (arith, common_steps, heights_are, depths_coded)
