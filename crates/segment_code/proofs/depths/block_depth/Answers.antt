use Rattle.std.proofs.Common.{◌∙◌}
use Rattle.segment_code.proofs.JoinedSizes.{joined_size}
use Rattle.segment_code.proofs.depths.block_depth.Goals as goal

pub returns : goal.returns
returns c = c.size.ensures.is ∙ joined_size c.args.block.now c.joined_magnitudes.result c.requires c.joined_magnitudes.ensures.below
    c.joined_magnitudes.ensures.least
