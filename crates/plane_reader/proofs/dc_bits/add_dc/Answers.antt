use Rattle.std.proofs.Common.{◌+◌, ◌*◌, ◌%◌, ◌^◌, ap, ◌∙◌}
use Rattle.block_masks.specs.Slices.{dc_slot, mask_in}
use Rattle.plane_reader.proofs.DcReads.{dc_adds}
use Rattle.plane_reader.proofs.dc_bits.add_dc.Goals as goal

pub returns : goal.returns
returns c = dc_adds c.args.is_one c.requires.low c.put_mask.ensures (c.from-2.ensures ∙
    ap (λ m. (m % 2 ^ 32 + c.from.result * 2 ^ c.args.plane % 4294967296) % 4294967296) c.mask_of.ensures.mask ∙
    ap (λ n. (mask_in c.args.cells.now c.args.column.block dc_slot % 2 ^ 32 + n * 2 ^ c.args.plane % 4294967296) % 4294967296) c.from.ensures)
