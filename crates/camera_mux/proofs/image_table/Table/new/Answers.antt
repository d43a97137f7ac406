use Rattle.std.proofs.Common.{sym, ap, subst, ◌∙◌, [], get_or}
use Rattle.std.proofs.lemmas.List.{get_or-replicate}
use Rattle.camera_mux.specs.Chains.{AreChained}
use Rattle.camera_mux.proofs.ChainLaws.{none_chained}
use Rattle.camera_mux.proofs.image_table.Table.new.Goals as goal

pub invariant_of-result-clause-chained : goal.invariant_of-result-clause-chained
invariant_of-result-clause-chained c =
    let last = c.in_ok-last.last.items in
    subst (λ entries. AreChained entries last c.in_ok-earlier.earlier.items) (sym c.in_ok-entries.ensures.items)
    (subst (AreChained [] last) (sym c.in_ok-earlier.ensures.items)
    (none_chained last (λ bucket lt. ap (λ xs. get_or xs bucket 0) (c.in_ok-last.ensures.items_if_clones_equal (λ y e. e)) ∙ get_or-replicate 4096
    bucket 65535 0 lt)))
