use Rattle.std.proofs.Common.{◌+◌, ◌*◌, refl, subst, arith, flat_map}
use Rattle.std.proofs.lemmas.Grind.{common_steps}
use Rattle.plane_defs.specs.declared.sets.Set.TheVariants.{Quad}
use Rattle.plane_defs.specs.Sets.{set_significant}
use Rattle.plane_coder.specs.Listed.{Lists}
use Rattle.plane_coder.proofs.Listing.{lists_start, lists_more, lists_typed}
use Rattle.plane_coder.proofs.FourTypes.{quads_typed}
use Rattle.plane_coder.proofs.BlockSets.{of_quad, of_quad_is, quads_are}
use Rattle.plane_coder.specs.Viewed.{block_in}
use Rattle.plane_coder.proofs.collect.add_quads_types.Goals as goal

pub loop-j-init : goal.loop-j-init
loop-j-init c =
    let s = c.args.plane_masks.now in
    record { lists = lists_start c.args.words.now (of_quad (block_in s) s.plan.now.weights.shifts s.plan.now.plane c.args.i) 0 1 }

pub push-requires : goal.push-requires
push-requires c = (omega arith, (c.four.ensures.packed, omega (arith, c.loop-j.invariant.lists.more, c.loop-j-test.true, c.requires.room)))

pub loop-j-preserved : goal.loop-j-preserved
loop-j-preserved c =
    let s = c.args.plane_masks.now in
    let i = c.args.i in
    let j = c.loop-j.j in
    let block = block_in s in
    let weights = s.plan.now.weights.shifts in
    let plane = s.plan.now.plane in
    let b = set_significant block plane (Quad i (0 + j)) in
    let typed = quads_typed block weights plane i j _ (c.four.ensures.picked _ _ _ (16 + 16 * i) 16 c.types_of_quads-types.ensures (omega arith)) in
    record {
      lists = lists_more (of_quad block weights plane i) 0 j 1 c.loop-j.invariant.lists
          (subst (λ l. Lists c.loop-j.words c.push.new.self l 1) (of_quad_is block weights plane b i j refl) (lists_typed typed c.push.ensures));
    }

pub returns : goal.returns
returns c = grind (arith, common_steps, flat_map, of_quad, quads_are)
