use Rattle.std.proofs.Common.{◌*◌, ◌/◌, ◌∙◌, ap, sym}
use Rattle.segment_code.proofs.Holding.{none_held}
use Rattle.segment_code.proofs.blocks.SegmentBlocks.new.Goals as goal

pub invariant_of-result : goal.invariant_of-result
invariant_of-result c =
    let masks = c.in_ok-new.ensures in
    let marks = c.in_ok-with_capacity.ensures in
    none_held c.in_ok-new.field-0 c.in_ok-with_capacity.field-0 c.in_ok-new-2.field-0 (rw masks.most c.requires) masks.numbers marks.items marks.len
    (marks.exact ∙ sym masks.most) (c.in_ok-new-2.ensures ∙ ap (λ m. 32 * (m / 16)) (sym masks.most))
