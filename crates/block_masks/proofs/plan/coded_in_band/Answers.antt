use Rattle.std.proofs.Common.{true}
use Rattle.block_masks.proofs.Bands.{all_shown, band_shown}
use Rattle.block_masks.proofs.plan.coded_in_band.Goals as goal

pub returns : goal.returns
returns c =
    let all = all_shown c.args.start c.args.count c.requires.count in
    band_shown c.args.plan.now.weights.shifts c.args.plan.now.plane c.args.start c.args.count c.requires.band c.can_have_bit.ensures
    (c.masked.ensures.if_known (λ p. true) c.args.start c.args.count all)
