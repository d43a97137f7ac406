use Rattle.std.proofs.Common.{◌≡◌, ◌+◌, ◌*◌, ◌%◌, ◌≤◌, ◌<◌, length, ap, sym, ◌∙◌, arith}
use Rattle.wave_defs.specs.Held.{block_at}
use Rattle.block_masks.specs.Slices.{mask_in, numbers_in}
use Rattle.plane_reader.proofs.JoinedCells.{fills_more, all_filled}
use Rattle.plane_reader.proofs.joining.join_group.Goals as goal

pub loop-r-init : goal.loop-r-init
loop-r-init c = record { long = ap length (sym c.copy_from_slice.ensures.after); blocks = λ q lt. absurd (omega (arith, lt)) }

pub join_block-requires-clause-below : goal.join_block-requires-clause-below
join_block-requires-clause-below c = λ slot le few.
    let copied = c.copy_from_slice.new.self in
    let long : length copied ≡ length c.args.part.now = ap length c.copy_from_slice.ensures.after in
    let r = c.of-column.result.block in
    let inside : 64 * r < length c.args.part.now = omega (arith, c.of-column.ensures.block, c.loop-r-test.true, c.requires.whole, long) in
    ap (λ l. mask_in l r slot) c.copy_from_slice.ensures.after ∙ c.requires.below r slot inside le few

pub loop-r-preserved : goal.loop-r-preserved
loop-r-preserved c =
    let copied = c.copy_from_slice.new.self in
    let long : length copied ≡ length c.args.part.now = ap length c.copy_from_slice.ensures.after in
    let within : 64 * c.loop-r.r + 64 ≤ length copied = omega (arith, c.loop-r-test.true, long) in
    let whole : length copied % 64 ≡ 0 = omega (arith, c.requires.whole, long) in
    fills_more within whole (omega arith) c.loop-r.invariant (c.join_block.ensures ∙ ap (block_at (numbers_in copied)) c.of-column.ensures.block)

pub returns : goal.returns
returns c =
    let copied = c.copy_from_slice.new.self in
    let long : length copied ≡ length c.args.part.now = ap length c.copy_from_slice.ensures.after in
    all_filled (omega (arith, c.loop-r-test.false, c.requires.whole, long)) c.loop-r.invariant ∙ ap numbers_in c.copy_from_slice.ensures.after
