use Rattle.std.proofs.Common.{◌+◌, refl, subst, arith, flat_map}
use Rattle.std.proofs.lemmas.Grind.{common_steps}
use Rattle.plane_defs.specs.declared.sets.Set.TheVariants.{Family}
use Rattle.plane_defs.specs.Sets.{set_significant}
use Rattle.plane_coder.specs.Listed.{Lists}
use Rattle.plane_coder.proofs.Listing.{lists_start, lists_more, lists_typed}
use Rattle.plane_coder.proofs.FourTypes.{children_typed}
use Rattle.plane_coder.proofs.BlockSets.{of_children, of_children_is, children_are}
use Rattle.plane_coder.specs.Viewed.{block_in}
use Rattle.plane_coder.proofs.collect.add_children_types.Goals as goal

pub loop-i-init : goal.loop-i-init
loop-i-init c =
    let s = c.args.plane_masks.now in
    record { lists = lists_start c.args.words.now (of_children (block_in s) s.plan.now.weights.shifts s.plan.now.plane) 0 1 }

pub push-requires : goal.push-requires
push-requires c = (omega arith, (c.four.ensures.packed, omega (arith, c.loop-i.invariant.lists.more, c.loop-i-test.true, c.requires.room)))

pub loop-i-preserved : goal.loop-i-preserved
loop-i-preserved c =
    let s = c.args.plane_masks.now in
    let i = c.loop-i.i in
    let block = block_in s in
    let weights = s.plan.now.weights.shifts in
    let plane = s.plan.now.plane in
    let b = set_significant block plane (Family (0 + i)) in
    let typed = children_typed block weights plane i _ (c.four.ensures.picked _ _ _ 4 12 c.types_of_children-types.ensures (omega arith)) in
    record {
      lists = lists_more (of_children block weights plane) 0 i 1 c.loop-i.invariant.lists
          (subst (λ l. Lists c.loop-i.words c.push.new.self l 1) (of_children_is block weights plane b i refl) (lists_typed typed c.push.ensures));
    }

pub returns : goal.returns
returns c = grind (arith, common_steps, flat_map, of_children, children_are)
