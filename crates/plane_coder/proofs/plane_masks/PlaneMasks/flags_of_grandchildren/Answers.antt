use Rattle.std.proofs.Common.{ℕ, ◌+◌, ◌&&◌, not, arith}
use Rattle.plane_defs.specs.declared.sets.Set.TheVariants.{Family, Grandchildren}
use Rattle.plane_defs.specs.Spans.{span}
use Rattle.plane_defs.specs.Sets.{significant, live, flag_due, set_significant, enclosing_significant}
use Rattle.plane_coder.proofs.GroupsPushed.{flags_word, is_packed}
use Rattle.plane_coder.specs.Viewed.{block_in}
use Rattle.plane_coder.proofs.plane_masks.PlaneMasks.flags_of_grandchildren.Goals as goal

pub pick-requires : goal.pick-requires
pick-requires c =
    let s = c.args.self.now in
    let sets = c.sets-sets.ensures in
    let live_sets = s.plan.now.live_shown in
    let new = c.except-new.ensures.within 3 live_sets.grandchildren.small in
    record { due = omega (arith, c.both.ensures.within, new); bits = omega (arith, sets.grandchildren.small) }

pub returns : goal.returns
unfolding live flag_due set_significant enclosing_significant span
returns c =
    let s = c.args.self.now in
    let block = block_in s in
    let weights = s.plan.now.weights.shifts in
    let plane = s.plan.now.plane in
    let sets = c.sets-sets.ensures in
    let above = c.of.ensures (significant block (plane + 1)) s.above_shown in
    let live_sets = s.plan.now.live_shown in
    let new = c.except-new.ensures.if_known (λ (i : ℕ). set_significant block (plane + 1) (Grandchildren i)) (λ (i : ℕ). live weights plane (Grandchildren i)) 0
    3 above.grandchildren live_sets.grandchildren in
    let fresh = λ (i : ℕ). not (set_significant block (plane + 1) (Grandchildren i)) && live weights plane (Grandchildren i) in
    let due = c.both.ensures.if_known fresh (λ (i : ℕ). set_significant block plane (Family i)) 0 3 new sets.families in
    record {
      flags = flags_word block weights plane Grandchildren _ 3 (omega arith)
          (c.pick.ensures.picked (λ (i : ℕ). set_significant block plane (Grandchildren i)) (λ (i : ℕ). flag_due block weights plane (Grandchildren i)) 0 3
          (omega arith) due sets.grandchildren);
      packed = is_packed _ c.pick.ensures.within c.pick.ensures.fits;
    }
