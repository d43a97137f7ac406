use Rattle.std.proofs.Common.{rules, ◌≡◌, arith, ◌+◌, ◌*◌, FitsSigned, w32}
use Rattle.std.proofs.lemmas.Int.{to_z-of_z}
use Rattle.block_masks.specs.Gaggles.{low_bits}
use Rattle.block_masks.proofs.MarkParts.{with_families_z}
use Rattle.block_masks.proofs.gaggle.with_families.Goals as goal

pub returns : goal.returns
returns c =
    let fits : FitsSigned w32 c.args.mark = search rules in
    let low : c.low_bits_of.result ≡ low_bits c.args.mark = simp to_z-of_z at c.low_bits_of.ensures.value in
    let p = with_families_z c.args.mark (c.low_bits_of.result + 8192 * c.args.families) c.args.families c.requires (omega (arith, low)) in
    record { depth = p.depth; options = p.options; sent = p.sent; families = p.families }
