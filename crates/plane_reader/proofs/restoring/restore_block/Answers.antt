use Rattle.std.proofs.Common.{ℕ, Bool, subst, ◌||◌, ◌&&◌, not}
use Rattle.item_defs.specs.Bits.{bit}
use Rattle.block_masks.specs.Masks.{Shows}
use Rattle.block_masks.specs.Slices.{mask_in, above_slot}
use Rattle.block_masks.proofs.Viewing.{shows_own}
use Rattle.plane_reader.specs.Blocks.{raw_slot}
use Rattle.plane_reader.specs.Restoring.{coded_below}
use Rattle.plane_reader.proofs.RestoredBlocks.{block_restored, bits_shown}
use Rattle.plane_reader.proofs.restoring.restore_block.Goals as goal

pub returns : goal.returns
returns c =
    let rest = c.args.rest.now in
    let plan = rest.plan in
    let r = c.args.column.block in
    let cells = c.args.cells.now in
    let above : ℕ → Bool = λ p. bit (mask_in cells r above_slot) p in
    let given : ℕ → Bool = λ p. bit (mask_in cells r plan.plane) p || bit (mask_in cells r raw_slot) p in
    let is_above : Shows c.mask_of-above.result above 0 64 = subst (λ m. Shows c.mask_of-above.result (bit m) 0 64) c.mask_of-above.ensures.mask
    (shows_own c.mask_of-above.result 64 c.mask_of-above.type_inv) in
    let has_bit : Shows c.mask_of.result (bit (mask_in cells r plan.plane)) 0 64 = subst (λ m. Shows c.mask_of.result (bit m) 0 64) c.mask_of.ensures.mask
    (shows_own c.mask_of.result 64 c.mask_of.type_inv) in
    let is_raw : Shows c.mask_of-2.result (bit (mask_in cells r raw_slot)) 0 64 = subst (λ m. Shows c.mask_of-2.result (bit m) 0 64) c.mask_of-2.ensures.mask
    (shows_own c.mask_of-2.result 64 c.mask_of-2.type_inv) in
    let bits = c.either-bits.ensures (bit (mask_in cells r plan.plane)) (bit (mask_in cells r raw_slot)) 0 64 has_bit is_raw in
    let both = c.both-given.ensures.if_known above given 0 64 is_above bits in
    let earlier = c.except-earlier.ensures.if_known given above 0 64 bits is_above in
    let c_near : ℕ → Bool = coded_below plan.weights.shifts plan.plane 1 in
    let c_middle : ℕ → Bool = coded_below plan.weights.shifts plan.plane 2 in
    let c_far : ℕ → Bool = coded_below plan.weights.shifts plan.plane 3 in
    block_restored plan.weights.shifts plan.q plan.plane r rest.low c.requires.reached c.put_below.ensures c.put_below-2.ensures c.put_below-3.ensures
    c.restore_dc.ensures
    (bits_shown (c.both.ensures.if_known (λ p. not (given p) && above p) c_near 0 64 earlier rest.near_shown))
    (bits_shown (c.both-2.ensures.if_known above c_middle 0 64 is_above rest.middle_shown))
    (bits_shown (c.both-3.ensures.if_known (λ p. above p && given p) c_far 0 64 both rest.far_shown))
