use Rattle.std.proofs.Common.{ℕ, ◌∙◌, sym}
use Rattle.std.specs.List.{list_any}
use Rattle.plane_defs.specs.declared.sets.Set.TheVariants.{Family, Grandchildren}
use Rattle.plane_defs.specs.Sets.{members}
use Rattle.block_masks.proofs.Viewing.{any_of_both}
use Rattle.block_masks.proofs.sets.Sets.of.Goals as goal

pub returns : goal.returns
returns c f shown =
    let first = c.is_any_of-first.ensures f shown in
    let second = c.is_any_of-second.ensures f shown in
    let third = c.is_any_of-third.ensures f shown in
    record {
      descendants = c.is_any_of.ensures f shown;
      families = c.three.ensures.if_known (λ (i : ℕ). list_any f (members (Family i)))
          (sym (c.or.ensures ∙ any_of_both f 4 4 16 16 (c.is_any_of-2.ensures f shown) first))
          (sym (c.or-2.ensures ∙ any_of_both f 8 4 32 16 (c.is_any_of-3.ensures f shown) second))
          (sym (c.or-3.ensures ∙ any_of_both f 12 4 48 16 (c.is_any_of-4.ensures f shown) third));
      grandchildren = c.three-2.ensures.if_known (λ (i : ℕ). list_any f (members (Grandchildren i))) (sym first) (sym second) (sym third);
    }
