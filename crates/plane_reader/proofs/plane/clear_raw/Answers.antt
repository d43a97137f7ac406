use Rattle.std.proofs.Common.{◌≡◌, ◌+◌, ◌*◌, ◌/◌, ◌∙◌, length, min, ap, subst, arith}
use Rattle.block_masks.specs.Slices.{PutsMask}
use Rattle.block_masks.proofs.SlicePlaces.{same_column}
use Rattle.plane_reader.specs.Blocks.{raw_slot}
use Rattle.plane_reader.proofs.ClearStates.{RawClear, raw_clear_start, raw_clear_more, raw_clear_all}
use Rattle.plane_reader.proofs.plane.clear_raw.Goals as goal

pub loop-g-init : goal.loop-g-init
loop-g-init c =
    let none : 0 ≡ min (16 * 0) (length c.args.cells.now / 64) = omega arith in
    subst (λ n. RawClear n c.args.cells.now c.args.cells.now) none (raw_clear_start c.args.cells.now)

pub loop-k-init : goal.loop-k-init
loop-k-init c =
    let start : min (16 * c.loop-g.g) (length c.args.cells.now / 64) ≡ 16 * c.loop-g.g + 0 = omega (arith, c.loop-g-test.true, c.div_ceil-g-end.ensures) in
    record { column = c.of-first.ensures.column; cleared = subst (λ n. RawClear n c.args.cells.now c.loop-g.cells) start c.loop-g.invariant }

pub loop-k-preserved : goal.loop-k-preserved
loop-k-preserved c =
    let cells = c.loop-k.cells in
    let r = 16 * c.loop-g.g + c.loop-k.k in
    let same : c.further-column.result.block ≡ r = c.further-column.ensures.block ∙ ap (λ n. n + c.loop-k.k) c.of-first.ensures.block in
    let next : r + 1 ≡ 16 * c.loop-g.g + (c.loop-k.k + 1) = omega arith in
    record {
      column = same_column c.put_mask.ensures.long c.loop-k.invariant.column;
      cleared = subst (λ n. RawClear n c.args.cells.now c.put_mask.new.cells) next (raw_clear_more c.loop-k.invariant.cleared (subst (λ n. PutsMask
          n raw_slot 0 cells c.put_mask.new.cells) same c.put_mask.ensures));
    }

pub loop-g-preserved : goal.loop-g-preserved
loop-g-preserved c =
    let last : 16 * c.loop-g.g + c.loop-k.k ≡ min (16 * (c.loop-g.g + 1)) (length c.args.cells.now / 64) =
    omega (arith, c.loop-k-test.false, c.loop-k.auto.k-end, c.min-k-end.ensures, c.of-first.ensures.block) in
    subst (λ n. RawClear n c.args.cells.now c.loop-k.cells) last c.loop-k.invariant.cleared

pub returns : goal.returns
returns c =
    let i = c.loop-g.invariant in
    raw_clear_all i (omega (arith, c.loop-g-test.false, c.loop-g.auto.g-end, c.div_ceil-g-end.ensures, c.requires.whole, i.long))
