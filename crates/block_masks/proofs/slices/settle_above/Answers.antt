use Rattle.std.proofs.Common.{◌≡◌, ◌+◌, ◌*◌, ◌<◌, ◌/◌, ◌^◌, min, ap, sym, ◌∙◌, subst, arith, length}
use Rattle.block_masks.specs.Masks.{Shows}
use Rattle.block_masks.specs.Slices.{mask_in, PutsMask, Settles}
use Rattle.block_masks.proofs.Settling.{none_settled, more_settled}
use Rattle.block_masks.proofs.SlicePlaces.{same_column}
use Rattle.block_masks.proofs.slices.settle_above.Goals as goal

pub loop-g-init : goal.loop-g-init
loop-g-init c =
    let none : 0 ≡ min (16 * 0) (length c.args.cells.now / 64) = omega arith in
    subst (λ n. Settles c.args.plane n c.args.cells.now c.args.cells.now) none (none_settled c.args.plane c.args.cells.now)

pub loop-k-init : goal.loop-k-init
loop-k-init c =
    let start : min (16 * c.loop-g.g) (length c.args.cells.now / 64) ≡ 16 * c.loop-g.g + 0 = omega (arith, c.loop-g-test.true, c.div_ceil-g-end.ensures) in
    record {
      column = c.of-first.ensures.column;
      settled = subst (λ n. Settles c.args.plane n c.args.cells.now c.loop-g.cells) start c.loop-g.invariant;
    }

pub loop-k-preserved : goal.loop-k-preserved
loop-k-preserved c =
    let cells = c.loop-k.cells in
    let i = c.loop-k.invariant in
    let r = 16 * c.loop-g.g + c.loop-k.k in
    let same : c.further-column.result.block ≡ r = c.further-column.ensures.block ∙ ap (λ n. n + c.loop-k.k) c.of-first.ensures.block in
    let above : c.mask_of.result ≡ mask_in cells r 29 = c.mask_of.ensures.mask ∙ ap (λ n. mask_in cells n 29) same in
    let plane : c.mask_of-in-loop-k.result ≡ mask_in cells r c.args.plane = c.mask_of-in-loop-k.ensures.mask ∙ ap (λ n. mask_in cells n c.args.plane) same in
    let within : 64 * r < length c.args.cells.now = (let block = c.further-column.ensures.column.block in omega (arith, same, block, i.settled.long)) in
    let next : r + 1 ≡ 16 * c.loop-g.g + (c.loop-k.k + 1) = omega arith in
    record {
      column = same_column c.put_mask.ensures.long i.column;
      settled = subst (λ n. Settles c.args.plane n c.args.cells.now c.put_mask.new.cells) next
          (more_settled c.requires.low within i.settled (subst (λ n. PutsMask n 29 c.either-above.result cells c.put_mask.new.cells) same c.put_mask.ensures)
          (subst (λ m. m < 2 ^ 64) above c.mask_of.type_inv) (subst (λ m. m < 2 ^ 64) plane c.mask_of-in-loop-k.type_inv)
          (λ f g start count fs gs. c.either-above.ensures f g start count (subst (λ m. Shows m f start count) (sym above) fs)
          (subst (λ m. Shows m g start count) (sym plane) gs)));
    }

pub loop-g-preserved : goal.loop-g-preserved
loop-g-preserved c =
    let last : 16 * c.loop-g.g + c.loop-k.k ≡ min (16 * (c.loop-g.g + 1)) (length c.args.cells.now / 64) =
    omega (arith, c.loop-k-test.false, c.loop-k.auto.k-end, c.min-k-end.ensures, c.of-first.ensures.block) in
    subst (λ n. Settles c.args.plane n c.args.cells.now c.loop-k.cells) last c.loop-k.invariant.settled

pub returns : goal.returns
returns c =
    let last : min (16 * c.loop-g.g) (length c.args.cells.now / 64) ≡ length c.args.cells.now / 64 =
    omega (arith, c.loop-g-test.false, c.loop-g.auto.g-end, c.div_ceil-g-end.ensures) in
    subst (λ n. Settles c.args.plane n c.args.cells.now c.loop-g.cells) last c.loop-g.invariant
