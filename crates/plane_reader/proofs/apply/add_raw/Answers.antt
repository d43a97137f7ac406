use Rattle.std.proofs.Common.{◌||◌, ap, ◌∙◌}
use Rattle.item_defs.specs.Bits.{bit}
use Rattle.plane_reader.proofs.BlockReads.{either_at, raw_put}
use Rattle.plane_reader.proofs.apply.add_raw.Goals as goal

pub returns-then-this-eq4 : goal.returns-then-this-eq4
returns-then-this-eq4 g c =
    raw_put c.put_mask.ensures (λ p lt. either_at c.either-all.ensures c.mask_of.type_inv c.ranges.raw.fits p lt ∙
    ap (λ m. bit m p || bit c.args.raw p) c.mask_of.ensures.mask)
