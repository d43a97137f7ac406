use Rattle.std.proofs.Common.{◌+◌}
use Rattle.plane_defs.specs.Sets.{significant, coded, refined}
use Rattle.plane_coder.specs.Viewed.{block_in}
use Rattle.plane_coder.proofs.plane_masks.PlaneMasks.refined.Goals as goal

pub returns : goal.returns
unfolding refined
returns c =
    let s = c.args.self.now in
    c.both.ensures.if_known (significant (block_in s) (s.plan.now.plane + 1)) (coded s.plan.now.weights.shifts s.plan.now.plane) 0 64 s.above_shown
    s.plan.now.shown
