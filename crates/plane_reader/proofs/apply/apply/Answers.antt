use Rattle.std.proofs.Common.{◌<◌, ◌^◌, ◌||◌, ap, ◌∙◌, rules}
use Rattle.item_defs.specs.Bits.{bit}
use Rattle.block_masks.proofs.SlicePlaces.{same_column}
use Rattle.plane_reader.proofs.BlockReads.{either_at, masks_put}
use Rattle.plane_reader.proofs.apply.apply.Goals as goal

pub mask_of-requires-clause-column : goal.mask_of-requires-clause-column
mask_of-requires-clause-column g c = same_column c.add_raw.ensures.long c.requires.column

pub mask_of-requires-2-clause-column : goal.mask_of-requires-2-clause-column
mask_of-requires-2-clause-column g c = same_column c.add_raw.ensures.long c.requires.column

pub put_mask-requires-clause-column : goal.put_mask-requires-clause-column
put_mask-requires-clause-column g c = same_column c.add_raw.ensures.long c.requires.column

pub put_mask-requires-2-clause-column : goal.put_mask-requires-2-clause-column
put_mask-requires-2-clause-column g c = same_column (c.put_mask.ensures.long ∙ c.add_raw.ensures.long) c.requires.column

pub returns : goal.returns
returns g c =
    let found = c.args.found in
    let some : found.bits < 2 ^ 64 = search rules in
    let minus : found.minus < 2 ^ 64 = search rules in
    masks_put c.requires.low c.add_raw.ensures c.put_mask.ensures c.put_mask-2.ensures c.requires.column.block
    (λ p lt. either_at c.either-bits.ensures c.mask_of.type_inv some p lt ∙ ap (λ m. bit m p || bit found.bits p) c.mask_of.ensures.mask)
    (λ p lt. either_at c.either-minus.ensures c.mask_of-2.type_inv minus p lt ∙ ap (λ m. bit m p || bit found.minus p) c.mask_of-2.ensures.mask)
