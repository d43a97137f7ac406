use Rattle.std.proofs.Common.{◌≡◌, ◌≤◌, ◌+◌, ◌*◌, ◌∙◌, refl, ap, sym, subst, arith, ◌++◌, length, take, drop}
use Rattle.std.proofs.lemmas.List.{take_at}
use Rattle.plane_defs.specs.Marks.{depths_of}
use Rattle.plane_defs.specs.Planes.{Plane, of_gaggle, gaggles, chosen}
use Rattle.block_masks.proofs.Marking.{length-depths_of}
use Rattle.plane_coder.specs.Collected.{HasWords}
use Rattle.plane_coder.specs.Kept.{free_at, Keeps, KeepFirst, KeepsOthers}
use Rattle.plane_coder.specs.Views.{plane_at}
use Rattle.plane_coder.proofs.Choosing.{none_chosen, one_chosen, all_chosen}
use Rattle.plane_coder.proofs.KeptBits.{fresh_agrees, none_kept, more_kept, all_gaggles_kept}
use Rattle.plane_coder.proofs.choose.choose_all.Goals as goal

pub loop-g-init : goal.loop-g-init
loop-g-init c = record { chosen = none_chosen _ _ _; kept = none_kept _ _ _ _; room = refl }

pub loop-g-preserved : goal.loop-g-preserved
loop-g-preserved c =
    let i = c.loop-g.invariant in
    let numbers = c.args.segment.now.numbers in
    let plan = c.args.plan.now in
    let g = c.loop-g.g in
    let book = c.args.tables.now.book in
    let p = plane_at numbers (depths_of c.args.marks.now) plan in
    let e : plane_at numbers (depths_of c.loop-g.marks) plan ≡ p = ap (λ d. plane_at numbers d plan) i.chosen.depths in
    let options = c.choose_options-options.ensures.chosen ∙ ap (λ (q : Plane). chosen book q g) e in
    let words = subst (λ (q : Plane). HasWords 0 (λ stage. of_gaggle q stage g) c.choose_options-options.new.words) e c.choose_options-options.ensures.words in
    let kept = c.keep_gaggle.ensures in
    let now = c.keep_gaggle.new.kept in
    let items = c.loop-g.room.kept.items in
    let put : take c.loop-g.room.kept.len (now ++ drop (length now) items) ≡ now = take_at now _ _ (kept.others.long ∙ c.deref_mut.ensures.len) in
    let others = subst (λ l. KeepsOthers g l now) c.deref_mut.ensures.value kept.others in
    record {
      chosen = one_chosen book p _ _ _ g _ i.chosen options c.choose_options-options.ensures.known c.store.ensures;
      room = i.room;
      kept = subst (KeepFirst book (chosen book p) p (g + 1)) (sym put)
          (more_kept i.kept others (λ full. subst (λ o. Keeps book o p g (free_at now g)) options
          (kept.keeps p (subst (λ l. 32 * g + 32 ≤ length l) (sym c.deref_mut.ensures.value) full) (fresh_agrees p g) words)));
    }

pub returns : goal.returns
returns c =
    let i = c.loop-g.invariant in
    let p = plane_at c.args.segment.now.numbers (depths_of c.args.marks.now) c.args.plan.now in
    let all : gaggles p ≤ c.loop-g.g = omega (arith, c.div_ceil-g-end.ensures, c.loop-g-test.false, length-depths_of c.args.marks.now) in
    record {
      chosen = all_chosen c.args.tables.now.book p _ _ c.loop-g.g (omega (arith, c.div_ceil-g-end.ensures, c.loop-g-test.false)) i.chosen;
      kept = all_gaggles_kept all i.kept;
      room = i.room;
    }
