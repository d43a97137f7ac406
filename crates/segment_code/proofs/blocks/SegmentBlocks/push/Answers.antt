use Rattle.std.proofs.Common.{◌≤◌, ◌∙◌, ◌++◌, [], ◌∷◌, ap, arith, pos, w32}
use Rattle.std.proofs.lemmas.Int.{to_z-of_z, fits_signed_from_abs}
use Rattle.segment_code.proofs.BlockBounds.{ac_fits_27, dc_fits_28}
use Rattle.segment_code.proofs.NumberSizes.{all_below, ac_small}
use Rattle.segment_code.proofs.Holding.{held_more}
use Rattle.segment_code.proofs.blocks.SegmentBlocks.push.Goals as goal

pub push-requires-clause-depth : goal.push-requires-clause-depth
push-requires-clause-depth c =
    let block = c.args.block.now in
    omega (
      arith,
      c.max.ensures,
      c.block_depth-depth.ensures,
      c.dc_depth.ensures,
      ac_fits_27 block c.requires.whole c.requires.bounded,
      dc_fits_28 block c.requires.whole c.requires.bounded,
    )

pub push-requires-clause-small : goal.push-requires-clause-small
push-requires-clause-small c k =
    rw c.max.ensures (all_below c.args.block.now c.requires.whole c.block_depth-depth.result c.dc_depth.result c.block_depth-depth.ensures c.dc_depth.ensures k)

pub push-requires-clause-small_ac : goal.push-requires-clause-small_ac
push-requires-clause-small_ac c = ac_small c.args.block.now c.requires.whole c.requires.bounded

pub invariant_of-self : goal.invariant_of-self
invariant_of-self c =
    let block = c.args.block.now in
    let depth = c.block_depth-depth.result in
    let low : depth ≤ 27 = omega (arith, c.block_depth-depth.ensures, ac_fits_27 block c.requires.whole c.requires.bounded) in
    let mark = to_z-of_z w32 (pos depth) (fits_signed_from_abs w32 (pos depth) (omega (arith, low))) in
    let items = rw c.from.ensures at c.push_reserved.ensures.items in
    held_more c.self.invariant c.push.new.self c.push_reserved.new.self block depth c.requires.whole c.requires.bounded c.block_depth-depth.ensures
    c.push.ensures.most c.push.ensures.numbers
    (items ∙ ap (λ n. c.self.inside.marks.items ++ n ∷ []) mark) c.push_reserved.ensures.len c.push_reserved.ensures.capacity
