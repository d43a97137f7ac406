use Rattle.std.proofs.Common.{rules, ◌≡◌, ◌*◌, ◌∙◌, ℤ, FitsSigned, w32, get_or, pos}
use Rattle.std.proofs.lemmas.Int.{to_z-of_z}
use Rattle.plane_defs.specs.Marks.{depth_of}
use Rattle.block_masks.specs.Gaggles.{options_in, sent_in, families_in}
use Rattle.block_masks.proofs.Marking.{stored}
use Rattle.block_masks.proofs.gaggle.store.Goals as goal

pub returns : goal.returns
returns c =
    let fits : FitsSigned w32 c.with_families.result = search rules in
    let kept_fits : FitsSigned w32 c.mark_of-kept.result = search rules in
    let mark : ℤ = get_or c.args.marks.now (16 * c.args.g) (pos 0) in
    let head : FitsSigned w32 mark = search rules in
    let was_depth : c.depth_of.result ≡ depth_of mark = simp to_z-of_z at c.depth_of.ensures.value in
    let was_families : c.families_of.result ≡ families_in mark = simp to_z-of_z at c.families_of.ensures.value in
    let depth : depth_of c.with_families.result ≡ depth_of c.mark_of-kept.result = simp to_z-of_z at c.with_families.ensures.depth in
    let options : options_in c.with_families.result ≡ options_in c.mark_of-kept.result = simp to_z-of_z at c.with_families.ensures.options in
    let sent : sent_in c.with_families.result ≡ sent_in c.mark_of-kept.result = simp to_z-of_z at c.with_families.ensures.sent in
    rw (to_z-of_z w32 c.with_families.result fits)
    (stored c.args.marks.now c.args.g c.with_families.result c.args.gaggle c.requires.within (depth ∙ c.mark_of-kept.ensures.depth_kept ∙ was_depth)
    (options ∙ c.mark_of-kept.ensures.options) (sent ∙ c.mark_of-kept.ensures.sent) (c.with_families.ensures.families ∙ was_families))
