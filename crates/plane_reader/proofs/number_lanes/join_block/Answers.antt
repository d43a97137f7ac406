use Rattle.std.proofs.Common.{rules, ◌%◌, ◌^◌, ap, ◌∙◌, w32, FitsSigned}
use Rattle.std.specs.Int.{cast_signed}
use Rattle.std.proofs.lemmas.Int.{to_z-of_z}
use Rattle.plane_reader.proofs.NumbersJoined.{joins_none, joins_more, joined_block, high_small}
use Rattle.plane_reader.proofs.NumberLanes.{low_full, high_full, high_is}
use Rattle.plane_reader.proofs.number_lanes.join_block.Goals as goal

pub put_part-requires-clause-small : goal.put_part-requires-clause-small
put_part-requires-clause-small c = high_small c.args.cells.now c.args.column.block 0 (high_full c.args.planes c.requires.few c.requires.below
    (high_is c.args.planes c.max.ensures) c.of-high.ensures).first

pub put_part-requires-2-clause-small : goal.put_part-requires-2-clause-small
put_part-requires-2-clause-small c = high_small c.args.cells.now c.args.column.block 16 (high_full c.args.planes c.requires.few c.requires.below
    (high_is c.args.planes c.max.ensures) c.of-high.ensures).second

pub put_part-requires-3-clause-small : goal.put_part-requires-3-clause-small
put_part-requires-3-clause-small c = high_small c.args.cells.now c.args.column.block 32 (high_full c.args.planes c.requires.few c.requires.below
    (high_is c.args.planes c.max.ensures) c.of-high.ensures).third

pub put_part-requires-4-clause-small : goal.put_part-requires-4-clause-small
put_part-requires-4-clause-small c = high_small c.args.cells.now c.args.column.block 48 (high_full c.args.planes c.requires.few c.requires.below
    (high_is c.args.planes c.max.ensures) c.of-high.ensures).fourth

pub returns : goal.returns
returns c =
    let fits : FitsSigned w32 c.cast_signed.result = search rules in
    let minus = c.mask_of-minus.ensures.mask in
    let low = low_full c.args.planes c.requires.few c.requires.below c.min.ensures c.of-low.ensures in
    let high = high_full c.args.planes c.requires.few c.requires.below (high_is c.args.planes c.max.ensures) c.of-high.ensures in
    joined_block c.requires.whole c.requires.column.block
    (joins_more low.fourth high.fourth minus c.put_part-4.ensures (joins_more low.third high.third minus c.put_part-3.ensures
    (joins_more low.second high.second minus c.put_part-2.ensures (joins_more low.first high.first minus c.put_part.ensures
    (joins_none c.args.cells.now c.args.column.block c.args.block.now c.requires.size)))))
    (to_z-of_z w32 c.cast_signed.result fits ∙ c.cast_signed.ensures ∙ ap (λ m. cast_signed w32 (m % 2 ^ 32)) c.mask_of.ensures.mask)
