use Rattle.std.proofs.Common.{◌≡◌, ◌+◌, ◌-◌, ◌*◌, ◌^◌, ◌≤◌, subst, arith, pow_mono}
use Rattle.plane_defs.specs.Sets.{coded}
use Rattle.block_masks.specs.Masks.{Shows}
use Rattle.block_masks.proofs.plan.coded_in_level.Goals as goal

pub joined-requires-clause-high : goal.joined-requires-clause-high
joined-requires-clause-high c =
    let room : c.args.count ≤ 64 - c.args.count = omega (arith, c.requires.within) in
    let most : 2 ^ c.args.count ≤ 2 ^ (64 - c.args.count) = pow_mono room in
    omega (arith, c.coded_in_band-second.ensures.small, most)

pub joined-requires-2-clause-high : goal.joined-requires-2-clause-high
joined-requires-2-clause-high c =
    let room : c.args.count ≤ 64 - 2 * c.args.count = omega (arith, c.requires.within) in
    let most : 2 ^ c.args.count ≤ 2 ^ (64 - 2 * c.args.count) = pow_mono room in
    omega (arith, c.coded_in_band-third.ensures.small, most)

pub returns : goal.returns
returns c =
    let f = coded c.args.plan.now.weights.shifts c.args.plan.now.plane in
    let two : c.args.count + c.args.count ≡ 2 * c.args.count = omega arith in
    let three : 2 * c.args.count + c.args.count ≡ 3 * c.args.count = omega arith in
    let pair = c.joined.ensures.if_known f c.args.start c.args.count c.coded_in_band-first.ensures c.coded_in_band-second.ensures in
    let all = c.joined-2.ensures.if_known f c.args.start c.args.count (subst (Shows c.joined.result f c.args.start) two pair) c.coded_in_band-third.ensures in
    subst (Shows c.joined-2.result f c.args.start) three all
