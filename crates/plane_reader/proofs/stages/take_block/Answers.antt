use Rattle.std.proofs.Common.{rules, FitsSigned, w32, ◌∙◌, sym, subst}
use Rattle.std.proofs.lemmas.Int.{to_z-of_z}
use Rattle.std.proofs.lemmas.Result.{err_from_is_err_and}
use Rattle.block_masks.specs.Masks.{Shows}
use Rattle.plane_reader.specs.Blocks.{IsAbove}
use Rattle.plane_reader.proofs.BlockReads.{seen_is, block_fault, block_cut, block_whole}
use Rattle.plane_reader.proofs.stages.take_block.Goals as goal

pub returns-in_err-families-clause-block : goal.returns-in_err-families-clause-block
returns-in_err-families-clause-block g c = λ numbers s are above has families.
    let e = err_from_is_err_and c.from_residual.result c.from_residual.ensures.1 in
    let mask = subst (λ m. IsAbove m numbers c.args.plan.now.plane) (sym c.mask_of-above.ensures.mask) above in
    let seen = seen_is c.either.ensures c.mask_of-above.type_inv c.mask_of.type_inv mask c.mask_of.ensures.mask has in
    let fits : FitsSigned w32 c.args.block.now.mark = search rules in
    let own = rw (to_z-of_z w32 c.args.block.now.mark fits) at c.families_of.ensures.value in
    let shown = subst (λ m. Shows m s.families 0 3) (sym own) families in
    rw (e.1, e.2) (block_fault c.apply.ensures has _ (c.in_err-families.ensures.words numbers s are mask shown seen))

pub returns-in_default-clause-block : goal.returns-in_default-clause-block
returns-in_default-clause-block g c = λ numbers s are above has families.
    let x = rw c.in_default.is at c.in_ok-families.ensures in
    let mask = subst (λ m. IsAbove m numbers c.args.plan.now.plane) (sym c.mask_of-above.ensures.mask) above in
    let seen = seen_is c.either.ensures c.mask_of-above.type_inv c.mask_of.type_inv mask c.mask_of.ensures.mask has in
    let fits : FitsSigned w32 c.args.block.now.mark = search rules in
    let own = rw (to_z-of_z w32 c.args.block.now.mark fits) at c.families_of.ensures.value in
    let shown = subst (λ m. Shows m s.families 0 3) (sym own) families in
    block_cut c.apply.ensures has (x.words numbers s are mask shown seen)

pub mark_after-block-requires-clause-few : goal.mark_after-block-requires-clause-few
mark_after-block-requires-clause-few g c = let x = rw c.in-Some.is at c.in_ok-families.ensures in x.small

pub mark_after-block-requires-clause-same : goal.mark_after-block-requires-clause-same
mark_after-block-requires-clause-same g c = λ other. let x = rw c.in-Some.is at c.in_ok-families.ensures in x.same other ∙ c.families_of.ensures.value

pub returns-clause-block : goal.returns-clause-block
returns-clause-block g c = λ numbers s are above has families.
    let x = rw c.in-Some.is at c.in_ok-families.ensures in
    let mask = subst (λ m. IsAbove m numbers c.args.plan.now.plane) (sym c.mask_of-above.ensures.mask) above in
    let seen = seen_is c.either.ensures c.mask_of-above.type_inv c.mask_of.type_inv mask c.mask_of.ensures.mask has in
    let fits : FitsSigned w32 c.args.block.now.mark = search rules in
    let own = rw (to_z-of_z w32 c.args.block.now.mark fits) at c.families_of.ensures.value in
    let shown = subst (λ m. Shows m s.families 0 3) (sym own) families in
    let new_fits : FitsSigned w32 c.mark_after-block.result = search rules in
    rw (to_z-of_z w32 c.mark_after-block.result new_fits) (block_whole c.apply.ensures has (sym c.mark_after-block.ensures.families)
    (x.words numbers s are mask shown seen))
