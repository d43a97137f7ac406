use Rattle.std.proofs.Common.{ℕ, ◌&&◌, get_or, pos, sym, ◌∙◌, subst}
use Rattle.plane_defs.specs.Sets.{significant, type_due, newly_significant}
use Rattle.plane_defs.specs.Entries.{negative}
use Rattle.block_masks.proofs.Viewing.{from_zero, nibble_small}
use Rattle.plane_coder.specs.Picked.{IsPacked}
use Rattle.plane_coder.proofs.GroupsPushed.{typed_is, is_packed}
use Rattle.plane_coder.specs.Viewed.{block_in}
use Rattle.plane_coder.proofs.plane_masks.PlaneMasks.types.Goals as goal

pub pick-word-requires : goal.pick-word-requires
pick-word-requires c = record {
  due = nibble_small _ c.args.count c.requires.few c.part.ensures.within;
  bits = nibble_small _ c.args.count c.requires.few c.part-2.ensures.within;
}

pub pick-signs-requires : goal.pick-signs-requires
pick-signs-requires c = record {
  due = nibble_small _ c.args.count c.requires.few c.part-3.ensures.within;
  bits = nibble_small _ c.args.count c.requires.few c.part-4.ensures.within;
}

pub returns : goal.returns
unfolding newly_significant
returns c =
    let s = c.args.self.now in
    let block = block_in s in
    let weights = s.plan.now.weights.shifts in
    let plane = s.plan.now.plane in
    let at = c.args.at in
    let count = c.args.count in
    let few = c.requires.few in
    let within = c.requires.within in
    let reached = significant block plane in
    let due = type_due block weights plane in
    let sign = λ (q : ℕ). negative (get_or block q (pos 0)) in
    let due_and_reached = c.both-new.ensures.if_known due reached 0 64 s.due_shown s.reached_shown in
    record {
      typed = typed_is block weights plane _ at count few
          (c.new.ensures.word ∙ c.pick-word.ensures.picked reached due at count few (from_zero at (c.part.ensures.if_known due 0 64 s.due_shown within))
          (from_zero at (c.part-2.ensures.if_known reached 0 64 s.reached_shown within)))
          (c.new.ensures.signs ∙ c.pick-signs.ensures.picked sign (λ p. due p && reached p) at count few
          (from_zero at (c.part-3.ensures.if_known (λ p. due p && reached p) 0 64 due_and_reached within))
          (from_zero at (c.part-4.ensures.if_known sign 0 64 s.negative_shown within)));
      packed = record {
        word = subst IsPacked (sym c.new.ensures.word) (is_packed _ c.pick-word.ensures.within c.pick-word.ensures.fits);
        signs = subst IsPacked (sym c.new.ensures.signs) (is_packed _ c.pick-signs.ensures.within c.pick-signs.ensures.fits);
      };
    }
