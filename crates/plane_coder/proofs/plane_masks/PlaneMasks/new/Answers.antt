use Rattle.std.proofs.Common.{◌+◌}
use Rattle.item_defs.specs.Bits.{bit}
use Rattle.wave_defs.specs.Held.{block_at}
use Rattle.plane_defs.specs.Sets.{significant, magnitude, coded, type_due}
use Rattle.block_masks.proofs.LaneMasks.{shows_same}
use Rattle.block_masks.proofs.Viewing.{reached_is}
use Rattle.plane_coder.proofs.plane_masks.PlaneMasks.new.Goals as goal

pub invariant_of-result : goal.invariant_of-result
unfolding type_due
invariant_of-result c =
    let block = block_at c.args.segment.now.numbers c.args.r in
    let plane = c.args.plan.now.plane in
    let v = c.requires.view in
    record {
      reached_shown = shows_same (reached_is block plane) (c.either.ensures (significant block (plane + 1)) (λ p. bit (magnitude block p) plane) 0 64
          v.above v.bits);
      above_shown = v.above;
      due_shown = c.except.ensures.if_known (significant block (plane + 1)) (coded c.args.plan.now.weights.shifts plane) 0 64 v.above c.args.plan.now.shown;
      bits_shown = v.bits;
      negative_shown = v.negative;
    }
