use Rattle.std.proofs.Common.{◌≡◌, ◌+◌, ◌<◌, ◌%◌, ◌/◌, ◌^◌, ◌∙◌, ap, arith, length, w32, of_z}
use Rattle.std.proofs.lemmas.Int.{of_z-to_z}
use Rattle.block_masks.specs.Slices.{place}
use Rattle.block_masks.proofs.SlicePlaces.{mask_put}
use Rattle.block_masks.proofs.slices.put_mask.Goals as goal

pub returns : goal.returns
returns c =
    let cells = c.args.cells.now in
    let mask = c.args.mask in
    let within : place (length cells / 64) c.args.column.block c.args.slot + 1 < length cells =
    omega (arith, c.place-at.ensures.place, c.place-at.ensures.within, c.requires.whole) in
    let low : of_z w32 c.cast_signed.result ≡ mask % 2 ^ 32 = ap (of_z w32) c.cast_signed.ensures ∙ of_z-to_z w32 (mask % 2 ^ 32) (omega arith) in
    let high : of_z w32 c.cast_signed-2.result ≡ mask / 2 ^ 32 =
    ap (of_z w32) c.cast_signed-2.ensures ∙ of_z-to_z w32 (mask / 2 ^ 32) (omega (arith, c.ranges.mask.fits)) in
    rw (low, high, c.place-at.ensures.place) (mask_put cells c.args.column.block c.args.slot mask c.requires.whole c.requires.column.block c.requires.slot
    c.ranges.mask.fits within)
