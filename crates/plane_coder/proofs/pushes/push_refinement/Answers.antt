use Rattle.std.proofs.Common.{◌≡◌, ◌+◌, ◌*◌, ◌-◌, ◌∙◌, ap, sym, subst, arith}
use Rattle.std.proofs.lemmas.Grind.{common_steps}
use Rattle.base_122.specs.Profile.{profile}
use Rattle.plane_coder.specs.Refining.{refining}
use Rattle.plane_coder.specs.Appends.{Appends}
use Rattle.plane_coder.proofs.Appending.{appends_none, appends_less, appends_both}
use Rattle.plane_coder.proofs.BlockSets.{refining_none, refining_more, refining_nothing}
use Rattle.plane_coder.specs.Viewed.{block_in}
use Rattle.plane_coder.proofs.pushes.push_refinement.Goals as goal

pub returns-then-not-is_any_of : goal.returns-then-not-is_any_of
returns-then-not-is_any_of c book = grind (arith, common_steps, refining_nothing, appends_less, appends_none)

pub loop-k-init : goal.loop-k-init
loop-k-init c = record {
  says = λ book.
      let s = c.args.plane_masks.now in
      let block = block_in s in
      let weights = s.plan.now.weights.shifts in
      let plane = s.plan.now.plane in
      let zero : 0 ≡ 4 * (c.args.from - c.args.from) = omega arith in
      let none = sym (refining_none block weights plane (4 * c.args.from)) ∙ ap (refining block weights plane (4 * c.args.from)) zero in
      subst (Appends book c.args.pending.now c.args.pending.now (refining block weights plane (4 * c.args.from) (4 * (c.args.from - c.args.from)))) zero
      (subst (λ l. Appends book c.args.pending.now c.args.pending.now l 0) none (appends_none book c.args.pending.now));
}

pub raws-requires : goal.raws-requires
raws-requires c =
    let load = (c.loop-k.invariant.says profile).load in
    record { packed = c.refinement_four.ensures.packed; room = omega (arith, load, c.requires.room) }

pub loop-k-preserved : goal.loop-k-preserved
loop-k-preserved c = record {
  says = λ book.
      let s = c.args.plane_masks.now in
      let block = block_in s in
      let weights = s.plan.now.weights.shifts in
      let plane = s.plan.now.plane in
      let k = c.loop-k.k in
      let from = c.args.from in
      let most : 4 * (k - from) + 4 ≡ 4 * ((k + 1) - from) = omega (arith, c.loop-k.auto.k) in
      let next = subst (λ l. Appends book c.loop-k.pending c.raws.new.self l 4) c.refinement_four.ensures.bits (c.raws.ensures.raws book) in
      let both = appends_both (4 * (k - from)) 4 (c.loop-k.invariant.says book) next in
      subst (Appends book c.args.pending.now c.raws.new.self (refining block weights plane (4 * from) (4 * ((k + 1) - from)))) most
      (subst (λ l. Appends book c.args.pending.now c.raws.new.self l (4 * (k - from) + 4)) (refining_more block weights plane from k c.loop-k.auto.k) both);
}

pub returns : goal.returns
returns c book =
    let s = c.args.plane_masks.now in
    let all : c.loop-k.k ≡ c.args.to = omega (arith, c.loop-k-test.false, c.loop-k.auto.k-end, c.requires.order) in
    subst (λ n. Appends book c.args.pending.now c.loop-k.pending (refining (block_in s) s.plan.now.weights.shifts s.plan.now.plane (4 * c.args.from)
    (4 * (n - c.args.from))) (4 * (n - c.args.from))) all (c.loop-k.invariant.says book)
