use Rattle.std.proofs.Common.{ℕ}
use Rattle.item_defs.specs.Bits.{bit}
use Rattle.plane_defs.specs.Sets.{magnitude, refined}
use Rattle.block_masks.proofs.Viewing.{from_zero, nibble_small}
use Rattle.plane_coder.proofs.GroupsPushed.{refining_is, is_packed}
use Rattle.plane_coder.specs.Viewed.{block_in}
use Rattle.plane_coder.proofs.plane_masks.PlaneMasks.refinement.Goals as goal

pub pick-requires : goal.pick-requires
pick-requires c = record {
  due = nibble_small _ c.args.count c.requires.few c.part.ensures.within;
  bits = nibble_small _ c.args.count c.requires.few c.part-2.ensures.within;
}

pub returns : goal.returns
returns c =
    let s = c.args.self.now in
    let block = block_in s in
    let weights = s.plan.now.weights.shifts in
    let plane = s.plan.now.plane in
    let f = λ (p : ℕ). bit (magnitude block p) plane in
    record {
      bits = refining_is block weights plane _ c.args.at c.args.count c.requires.few
          (c.pick.ensures.picked f (refined block weights plane) c.args.at c.args.count c.requires.few
          (from_zero c.args.at (c.part.ensures.if_known (refined block weights plane) 0 64 c.requires.refined c.requires.within))
          (from_zero c.args.at (c.part-2.ensures.if_known f 0 64 s.bits_shown c.requires.within)));
      packed = is_packed _ c.pick.ensures.within c.pick.ensures.fits;
    }
