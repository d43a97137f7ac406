use Rattle.std.proofs.Common.{ℕ, ◌≡◌, ◌+◌, ◌&&◌, Bool, true, not, ap, sym, ◌∙◌, arith}
use Rattle.plane_defs.specs.declared.sets.Set.TheVariants.{Quad}
use Rattle.plane_defs.specs.Spans.{span}
use Rattle.plane_defs.specs.Sets.{significant, live, flag_due, set_significant, enclosing_significant}
use Rattle.block_masks.proofs.LaneMasks.{shows_same}
use Rattle.plane_coder.proofs.GroupsPushed.{flags_word, is_packed}
use Rattle.plane_coder.specs.Viewed.{block_in}
use Rattle.plane_coder.proofs.plane_masks.PlaneMasks.flags_of_quads.Goals as goal

and_true : (b : Bool) → b ≡ (b && true)
and_true b = grind arith

pub pick-requires : goal.pick-requires
pick-requires c =
    let s = c.args.self.now in
    let live_quads = s.plan.now.quads_shown c.args.i c.requires.family in
    record { due = c.except-new.ensures.within 4 live_quads.shown.small; bits = c.quads.ensures.shown.small }

pub returns : goal.returns
unfolding live flag_due set_significant enclosing_significant span
returns c =
    let s = c.args.self.now in
    let block = block_in s in
    let weights = s.plan.now.weights.shifts in
    let plane = s.plan.now.plane in
    let i = c.args.i in
    let above = c.four_sets-before.ensures (significant block (plane + 1)) s.above_shown in
    let live_quads = s.plan.now.quads_shown c.args.i c.requires.family in
    let new = c.except-new.ensures.if_known (λ (j : ℕ). set_significant block (plane + 1) (Quad i j)) (λ (j : ℕ). live weights plane (Quad i j)) 0 4 above
    live_quads.shown in
    let fresh = λ (j : ℕ). not (set_significant block (plane + 1) (Quad i j)) && live weights plane (Quad i j) in
    let due = shows_same {g = λ (j : ℕ). flag_due block weights plane (Quad i j)}
    (λ j. and_true (fresh j) ∙ ap (λ b. fresh j && b) (sym c.requires.enclosing)) new in
    record {
      flags = flags_word block weights plane (Quad i) _ 4 (omega arith) (c.pick.ensures.picked (λ (j : ℕ). set_significant block plane (Quad i j))
          (λ (j : ℕ). flag_due block weights plane (Quad i j)) 0 4 (omega arith) due c.quads.ensures.shown);
      packed = is_packed _ c.pick.ensures.within c.pick.ensures.fits;
    }
