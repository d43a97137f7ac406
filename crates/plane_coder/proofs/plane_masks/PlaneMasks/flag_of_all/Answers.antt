use Rattle.std.proofs.Common.{ℕ, ◌≡◌, ◌+◌, ◌&&◌, Bool, true, not, arith}
use Rattle.plane_defs.specs.declared.sets.Set.TheVariants.{Descendants}
use Rattle.plane_defs.specs.Spans.{span}
use Rattle.plane_defs.specs.Sets.{significant, live, flag_due, set_significant, enclosing_significant}
use Rattle.block_masks.proofs.LaneMasks.{shows_same}
use Rattle.plane_coder.proofs.GroupsPushed.{flags_raw, is_packed}
use Rattle.plane_coder.specs.Viewed.{block_in}
use Rattle.plane_coder.proofs.plane_masks.PlaneMasks.flag_of_all.Goals as goal

and_true : (b : Bool) → b ≡ (b && true)
and_true b = grind arith

pub pick-requires : goal.pick-requires
pick-requires c =
    let new = c.except-new.ensures.within 1 c.one-2.ensures.within in
    record { due = omega (arith, new); bits = omega (arith, c.one-3.ensures.within) }

pub returns : goal.returns
unfolding live flag_due set_significant enclosing_significant span
returns c =
    let s = c.args.self.now in
    let block = block_in s in
    let weights = s.plan.now.weights.shifts in
    let plane = s.plan.now.plane in
    let sets = c.sets.ensures in
    let above = c.of.ensures (significant block (plane + 1)) s.above_shown in
    let live_sets = s.plan.now.live_shown in
    let before = shows_same {g = λ (i : ℕ). set_significant block (plane + 1) Descendants} (λ i. above.descendants) (c.one.ensures.if_known 0) in
    let some = shows_same {g = λ (i : ℕ). live weights plane Descendants} (λ i. live_sets.descendants) (c.one-2.ensures.if_known 0) in
    let now = shows_same {g = λ (i : ℕ). set_significant block plane Descendants} (λ i. sets.descendants) (c.one-3.ensures.if_known 0) in
    let new = c.except-new.ensures.if_known (λ (i : ℕ). set_significant block (plane + 1) Descendants) (λ (i : ℕ). live weights plane Descendants) 0 1 before
    some in
    let due = shows_same {g = λ (i : ℕ). flag_due block weights plane Descendants}
    (λ i. and_true (not (set_significant block (plane + 1) Descendants) && live weights plane Descendants)) new in
    record {
      flag = flags_raw block weights plane (λ (i : ℕ). Descendants) _ 1 (omega arith)
          (c.pick.ensures.picked (λ (i : ℕ). set_significant block plane Descendants) (λ (i : ℕ). flag_due block weights plane Descendants) 0 1
          (omega arith) due now);
      packed = is_packed _ c.pick.ensures.within c.pick.ensures.fits;
    }
