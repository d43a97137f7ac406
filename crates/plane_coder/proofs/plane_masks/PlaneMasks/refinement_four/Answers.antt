use Rattle.std.proofs.Common.{ℕ, ◌*◌, arith}
use Rattle.item_defs.specs.Bits.{bit}
use Rattle.plane_defs.specs.Sets.{magnitude, refined}
use Rattle.plane_coder.proofs.GroupsPushed.{refining_is, is_packed}
use Rattle.plane_coder.specs.Viewed.{block_in}
use Rattle.plane_coder.proofs.plane_masks.PlaneMasks.refinement_four.Goals as goal

pub returns : goal.returns
returns c =
    let s = c.args.self.now in
    let block = block_in s in
    let weights = s.plan.now.weights.shifts in
    let plane = s.plan.now.plane in
    let fours = c.requires.fours in
    record {
      bits = refining_is block weights plane _ (4 * c.args.k) 4 (omega arith)
          (c.pick.ensures.picked fours.due fours.bits (λ (p : ℕ). bit (magnitude block p) plane) (refined block weights plane) fours.paired fours.due_shown
          fours.bits_shown);
      packed = is_packed _ c.pick.ensures.within c.pick.ensures.fits;
    }
