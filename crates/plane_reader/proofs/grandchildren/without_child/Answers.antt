use Rattle.std.proofs.Common.{not, ap, sym, rules}
use Rattle.item_defs.specs.Bits.{bit}
use Rattle.std.specs.List.{list_any}
use Rattle.plane_defs.specs.Spans.{span}
use Rattle.plane_defs.specs.Sets.{children_of}
use Rattle.block_masks.proofs.Viewing.{shows_own}
use Rattle.plane_reader.proofs.grandchildren.without_child.Goals as goal

pub returns : goal.returns
returns c =
    let shown = shows_own c.args.mask 64 (search rules) in
    c.three.ensures.if_known (λ i. not (list_any (bit c.args.mask) (span (children_of i) 4))) (ap not (sym (c.is_any_of.ensures (bit c.args.mask) shown)))
    (ap not
    (sym (c.is_any_of-2.ensures (bit c.args.mask) shown))) (ap not (sym (c.is_any_of-3.ensures (bit c.args.mask) shown)))
