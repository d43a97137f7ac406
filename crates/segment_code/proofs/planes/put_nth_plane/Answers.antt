use Rattle.std.proofs.Common.{◌≡◌, ◌<◌, ◌-◌, ◌+◌, ◌∙◌, ap, subst, arith}
use Rattle.plane_defs.specs.Marks.{depths_of}
use Rattle.block_masks.specs.SegmentNumbers.{AreAbove}
use Rattle.segment_defs.specs.SegmentItems.{stages_sent, nth_plane}
use Rattle.segment_code.proofs.PlaneParts.{plane_put}
use Rattle.segment_code.proofs.Holding.{held_with}
use Rattle.segment_code.proofs.planes.put_nth_plane.Goals as goal

pub put_plane-requires-clause-above : goal.put_plane-requires-clause-above
put_plane-requires-clause-above g c =
    let same : c.args.head.now.depth_ac - c.args.n ≡ c.plane_plan-plan.result.plane + 1 = omega (arith, c.plane_plan-plan.ensures.plane, c.requires.within) in
    rw c.blocks-2.view_is (subst (λ p. AreAbove p c.args.blocks.now) same c.requires.above)

pub invariant_of-blocks : goal.invariant_of-blocks
invariant_of-blocks g c =
    let p = c.put_plane.ensures in
    held_with c.blocks-2.invariant c.put_plane.new.segment c.put_plane.new.marks c.put_plane.new.room (p.depths ∙ ap depths_of c.deref_mut.ensures.value)
    p.numbers p.most p.room

pub returns-clause-puts : goal.returns-clause-puts
returns-clause-puts g c =
    let h = c.args.head.now in
    let same : h.depth_ac - 1 - c.args.n ≡ nth_plane h c.args.n = omega arith in
    let plane : c.plane_plan-plan.result.plane ≡ nth_plane h c.args.n = c.plane_plan-plan.ensures.plane ∙ same in
    let sent : c.stages_sent.result ≡ stages_sent h (nth_plane h c.args.n) = c.stages_sent.ensures.is ∙ ap (stages_sent h) same in
    let some : 0 < c.stages_sent.result = c.stages_sent.ensures.some (omega (arith, c.requires.within)) in
    let last : c.plane_plan-plan.result.last + 1 ≡ stages_sent h (nth_plane h c.args.n) = omega (arith, c.plane_plan-plan.ensures.last, sent, some) in
    rw (← c.blocks-2.view_is)
    (plane_put c.args.tables.now.book h c.blocks-2.inside.masks.numbers (depths_of c.deref_mut.result.now) c.plane_plan-plan.result c.args.n
    (ap depths_of c.deref_mut.ensures.value ∙ c.blocks-2.invariant.depths) plane c.plane_plan-plan.ensures.q c.plane_plan-plan.ensures.weights last
    c.put_plane.ensures.puts)

pub returns-clause-above : goal.returns-clause-above
returns-clause-above g c =
    let same : c.plane_plan-plan.result.plane ≡ c.args.head.now.depth_ac - (c.args.n + 1) = omega (arith, c.plane_plan-plan.ensures.plane) in
    subst (λ p. AreAbove p c.put_plane.new.segment) same c.put_plane.ensures.above
