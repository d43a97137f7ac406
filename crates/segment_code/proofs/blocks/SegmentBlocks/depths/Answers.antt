use Rattle.std.proofs.Common.{◌≡◌, ◌∙◌, ap, arith, vec_len}
use Rattle.wave_defs.specs.Held.{blocks_in}
use Rattle.plane_defs.specs.Marks.{depths_of}
use Rattle.segment_defs.specs.Depths.{depth_dc_of, depth_ac_of}
use Rattle.segment_code.proofs.DcFits.{held_dcs}
use Rattle.segment_code.proofs.SegmentDepths.{dc_depth_is, ac_depth_is, least_dc, most_dc, most_ac}
use Rattle.segment_code.proofs.blocks.SegmentBlocks.depths.Goals as goal
use Rattle.segment_code.proofs.blocks.SegmentBlocks.depths.Goals.{After-greatest_depth}

dc_is : (c : After-greatest_depth) → c.greatest_dc_depth.result ≡ depth_dc_of (blocks_in c.self.inside.masks.numbers)
dc_is c =
    let cells = c.self.inside.masks.numbers in
    c.greatest_dc_depth.ensures ∙ dc_depth_is cells c.dcs.result.now (held_dcs c.dcs.result.now cells c.dcs.ensures.long c.dcs.ensures.dcs)

ac_is : (c : After-greatest_depth) → c.greatest_depth.result ≡ depth_ac_of (blocks_in c.self.inside.masks.numbers)
ac_is c = c.greatest_depth.ensures ∙ ac_depth_is (blocks_in c.self.inside.masks.numbers) (depths_of c.deref.result.now)
    (ap depths_of c.deref.ensures.value ∙ c.self.invariant.depths)

pub returns-clause-dc : goal.returns-clause-dc
returns-clause-dc c = rw (← c.self.view_is) (dc_is c)

pub returns-clause-ac : goal.returns-clause-ac
returns-clause-ac c = rw (← c.self.view_is) (ac_is c)

pub returns-clause-least_dc : goal.returns-clause-least_dc
returns-clause-least_dc c =
    let some = rw (← c.self.view_is) at c.requires.some in
    omega (arith, dc_is c, least_dc c.self.inside.masks.numbers (vec_len c.self.inside.marks) c.self.invariant.whole some)

pub returns-clause-most_dc : goal.returns-clause-most_dc
returns-clause-most_dc c = omega (
  arith,
  dc_is c,
  most_dc c.self.inside.masks.numbers (vec_len c.self.inside.marks) c.self.invariant.whole
      c.self.invariant.bounded,
)

pub returns-clause-most_ac : goal.returns-clause-most_ac
returns-clause-most_ac c = omega (
  arith,
  ac_is c,
  most_ac c.self.inside.masks.numbers (vec_len c.self.inside.marks) c.self.invariant.whole
      c.self.invariant.bounded,
)
