use Rattle.plane_defs.specs.Sets.{coded}
use Rattle.block_masks.proofs.Bands.{child_bands, grandchild_bands}
use Rattle.block_masks.proofs.plan.coded_positions.Goals as goal

pub coded_in_level-children-requires-clause-bands : goal.coded_in_level-children-requires-clause-bands
coded_in_level-children-requires-clause-bands c = child_bands

pub coded_in_level-grandchildren-requires-clause-bands : goal.coded_in_level-grandchildren-requires-clause-bands
coded_in_level-grandchildren-requires-clause-bands c = grandchild_bands

pub joined-requires-2-clause-low : goal.joined-requires-2-clause-low
joined-requires-2-clause-low c = c.joined.ensures.within 3 c.coded_in_level-parents.ensures.small

pub joined-requires-3-clause-low : goal.joined-requires-3-clause-low
joined-requires-3-clause-low c = c.joined-2.ensures.within 12 c.coded_in_level-children.ensures.small

pub returns : goal.returns
returns c =
    let f = coded c.args.plan.now.weights.shifts c.args.plan.now.plane in
    let parents = c.joined.ensures.if_known f 0 3 c.coded_in_band-dc.ensures c.coded_in_level-parents.ensures in
    let children = c.joined-2.ensures.if_known f 0 12 parents c.coded_in_level-children.ensures in
    c.joined-3.ensures.if_known f 0 48 children c.coded_in_level-grandchildren.ensures
