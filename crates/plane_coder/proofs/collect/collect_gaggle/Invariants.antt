use Rattle.std.proofs.Common.{◌*◌}
use Rattle.plane_defs.specs.Marks.{depths_of}
use Rattle.plane_coder.specs.Views.{plane_in}
use Rattle.plane_coder.proofs.Collecting.{SoFar}
use Rattle.plane_coder.proofs.collect.collect_gaggle.Given as goal

abbrev pub invariant-loop-place : goal.invariant-loop-place
invariant-loop-place g l = SoFar (plane_in l.view (depths_of l.marks)) g.row.WANTED (16 * l.g) l.place l.words
