use Rattle.std.proofs.Common.{◌≡◌, ◌+◌, ◌∙◌, ap, subst, arith, zero-add, flat_map}
use Rattle.std.proofs.lemmas.Grind.{common_steps}
use Rattle.plane_defs.specs.declared.sets.Set.TheVariants.{Grandchildren}
use Rattle.plane_defs.specs.Sets.{set_significant}
use Rattle.plane_coder.specs.Listed.{Lists}
use Rattle.plane_coder.proofs.Listing.{lists_start, lists_more}
use Rattle.plane_coder.proofs.BlockSets.{of_family, of_family_is, families_are}
use Rattle.plane_coder.specs.Viewed.{block_in}
use Rattle.plane_coder.proofs.collect.add_all_quads.Goals as goal

pub loop-i-init : goal.loop-i-init
loop-i-init c =
    let s = c.args.plane_masks.now in
    record { lists = lists_start c.args.words.now (of_family (block_in s) s.plan.now.weights.shifts s.plan.now.plane) 0 5 }

pub add_quads-requires : goal.add_quads-requires
unfolding set_significant
add_quads-requires c = record {
  family = c.loop-i-test.true;
  enclosing =
      let if_known : c.has.result ≡ set_significant (block_in c.args.plane_masks.now) c.args.plane_masks.now.plan.now.plane (Grandchildren (0 + c.loop-i.i)) =
      c.has.ensures _ 0 3 c.requires.sets.grandchildren c.loop-i-test.true in
      if_known ∙ ap (λ n. set_significant (block_in c.args.plane_masks.now) c.args.plane_masks.now.plan.now.plane (Grandchildren n)) (zero-add c.loop-i.i);
  room = omega (arith, c.loop-i.invariant.lists.more, c.loop-i-test.true, c.requires.room);
}

pub loop-i-preserved : goal.loop-i-preserved
unfolding set_significant
loop-i-preserved c =
    let s = c.args.plane_masks.now in
    let i = c.loop-i.i in
    let block = block_in s in
    let weights = s.plan.now.weights.shifts in
    let plane = s.plan.now.plane in
    let if_known : c.has.result ≡ set_significant block plane (Grandchildren (0 + i)) = c.has.ensures _ 0 3 c.requires.sets.grandchildren c.loop-i-test.true in
    record {
      lists = lists_more (of_family block weights plane) 0 i 5 c.loop-i.invariant.lists
          (subst (λ l. Lists c.loop-i.words c.add_quads.new.words l 5) (of_family_is block weights plane c.has.result i if_known) c.add_quads.ensures);
    }

pub returns : goal.returns
returns c = grind (arith, common_steps, flat_map, of_family, families_are)
