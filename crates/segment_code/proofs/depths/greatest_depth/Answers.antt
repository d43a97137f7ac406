use Rattle.std.proofs.Common.{◌≡◌, ◌∙◌, ap, arith, pos, w32, get_or, take_all}
use Rattle.std.proofs.lemmas.Int.{to_z-of_z}
use mir.Val.{SFits}
use Rattle.std.proofs.Common.{rules}
use Rattle.plane_defs.specs.Marks.{depth_of}
use Rattle.std.proofs.lemmas.Grind.{common_steps}
use Rattle.segment_code.proofs.SegmentDepths.{no_greatest, greatest_more}
use Rattle.segment_code.proofs.depths.greatest_depth.Goals as goal

pub loop-mark-init : goal.loop-mark-init
loop-mark-init c = no_greatest c.args.marks.now

pub loop-mark-preserved : goal.loop-mark-preserved
loop-mark-preserved c =
    let marks = c.args.marks.now in
    let i = c.loop-mark.mark-index in
    let fits : SFits w32 (get_or marks i (pos 0)) = search rules in
    let depth : c.depth_of.result ≡ depth_of (get_or marks i (pos 0)) = c.depth_of.ensures.value ∙ ap depth_of (to_z-of_z w32 (get_or marks i (pos 0)) fits) in
    c.max-most.ensures ∙ greatest_more marks i c.loop-mark.most c.depth_of.result c.loop-mark-test.true depth c.loop-mark.invariant

pub returns : goal.returns
returns c = grind (arith, common_steps, take_all)
