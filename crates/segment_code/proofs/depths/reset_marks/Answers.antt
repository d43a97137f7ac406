use Rattle.std.proofs.Common.{◌≡◌, ◌∙◌, ap, arith, pos, to_z, of_z, w32, get_or, set}
use Rattle.std.proofs.Common.{rules}
use mir.Val.{SFits}
use Rattle.std.proofs.lemmas.Int.{to_z-of_z, fits_signed_from_abs}
use Rattle.plane_defs.specs.Marks.{depth_of}
use Rattle.segment_code.proofs.DepthMarks.{depth_more, depths_alone}
use Rattle.segment_code.proofs.depths.reset_marks.Goals as goal

pub loop-mark-preserved : goal.loop-mark-preserved
loop-mark-preserved c =
    let marks = c.loop-mark.marks in
    let i = c.loop-mark.mark-index in
    let mark = get_or marks i (pos 0) in
    let fits : SFits w32 mark = search rules in
    let depth : c.depth_of.result ≡ depth_of mark = c.depth_of.ensures.value ∙ ap depth_of (to_z-of_z w32 mark fits) in
    let written : to_z w32 (of_z w32 c.from.result) ≡ pos c.depth_of.result =
    ap (λ z. to_z w32 (of_z w32 z)) c.from.ensures ∙ to_z-of_z w32 (pos c.depth_of.result)
    (fits_signed_from_abs w32 (pos c.depth_of.result) (omega (arith, c.depth_of.ensures.within))) in
    ap (set marks i) written ∙ depth_more c.args.marks.now marks i c.depth_of.result c.loop-mark-test.true depth c.loop-mark.invariant

pub returns : goal.returns
returns c = depths_alone c.args.marks.now c.loop-mark.mark-index c.loop-mark-test.false c.loop-mark.invariant
