use Rattle.std.proofs.Common.{ℕ, ◌+◌, ◌&&◌, not, ap, arith}
use Rattle.plane_defs.specs.declared.sets.Set.TheVariants.{Family}
use Rattle.plane_defs.specs.Spans.{span}
use Rattle.plane_defs.specs.Sets.{significant, live, flag_due, set_significant, enclosing_significant}
use Rattle.block_masks.proofs.LaneMasks.{shows_same}
use Rattle.plane_coder.proofs.GroupsPushed.{flags_word, is_packed}
use Rattle.plane_coder.specs.Viewed.{block_in}
use Rattle.plane_coder.proofs.plane_masks.PlaneMasks.flags_of_families.Goals as goal

pub pick-requires : goal.pick-requires
pick-requires c =
    let s = c.args.self.now in
    let sets = c.sets-sets.ensures in
    let live_sets = s.plan.now.live_shown in
    let new = c.except-new.ensures.within 3 live_sets.families.small in
    record { due = omega (arith, c.masked.ensures.within, new); bits = omega (arith, sets.families.small) }

pub returns : goal.returns
unfolding live flag_due set_significant enclosing_significant span
returns c =
    let s = c.args.self.now in
    let block = block_in s in
    let weights = s.plan.now.weights.shifts in
    let plane = s.plan.now.plane in
    let sets = c.sets-sets.ensures in
    let above = c.of.ensures (significant block (plane + 1)) s.above_shown in
    let live_sets = s.plan.now.live_shown in
    let new = c.except-new.ensures.if_known (λ (i : ℕ). set_significant block (plane + 1) (Family i)) (λ (i : ℕ). live weights plane (Family i)) 0 3
    above.families live_sets.families in
    let fresh = λ (i : ℕ). not (set_significant block (plane + 1) (Family i)) && live weights plane (Family i) in
    let due = shows_same {g = λ (i : ℕ). flag_due block weights plane (Family i)} (λ i. ap (λ b. fresh i && b) sets.descendants)
    (c.masked.ensures.if_known fresh 0 3 new) in
    record {
      flags = flags_word block weights plane Family _ 3 (omega arith) (c.pick.ensures.picked (λ (i : ℕ). set_significant block plane (Family i))
          (λ (i : ℕ). flag_due block weights plane (Family i)) 0 3 (omega arith) due sets.families);
      packed = is_packed _ c.pick.ensures.within c.pick.ensures.fits;
    }
