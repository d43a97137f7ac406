use Rattle.plane_defs.specs.Sets.{significant}
use Rattle.plane_coder.specs.Viewed.{block_in}
use Rattle.plane_coder.proofs.plane_masks.PlaneMasks.sets.Goals as goal

pub returns : goal.returns
returns c = let s = c.args.self.now in c.of.ensures (significant (block_in s) s.plan.now.plane) s.reached_shown
