use Rattle.std.proofs.Common.{◌∙◌, ap, sym, arith}
use Rattle.item_defs.specs.Bits.{bit}
use Rattle.block_masks.proofs.Viewing.{shows_own}
use Rattle.plane_reader.proofs.RestoredBlocks.{adds_half, adds_none, half_by}
use Rattle.plane_reader.proofs.restoring.restore_dc.Goals as goal

pub returns-in-Some : goal.returns-in-Some
returns-in-Some c =
    adds_half (half_by c.args.rest.now.plan.weights.shifts c.args.rest.now.plan.q c.args.rest.now.plan.plane c.args.column.block c.args.cells.now
    c.has-is_given.result (c.has-is_given.ensures (bit c.mask_of.result) 0 64 (shows_own c.mask_of.result 64 c.mask_of.type_inv) (omega arith) ∙
    ap (λ m. bit m 0) c.mask_of.ensures.mask) ∙ sym c.half.ensures ∙ c.in-Some.is) c.add_dc.ensures

pub returns-in_default : goal.returns-in_default
returns-in_default c =
    adds_none (half_by c.args.rest.now.plan.weights.shifts c.args.rest.now.plan.q c.args.rest.now.plan.plane c.args.column.block c.args.cells.now
    c.has-is_given.result (c.has-is_given.ensures (bit c.mask_of.result) 0 64 (shows_own c.mask_of.result 64 c.mask_of.type_inv) (omega arith) ∙
    ap (λ m. bit m 0) c.mask_of.ensures.mask) ∙ sym c.half.ensures ∙ c.in_default.is)
