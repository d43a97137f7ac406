use Rattle.item_defs.specs.Bits.{bit}
use Rattle.block_masks.proofs.Viewing.{shows_own, from_zero}
use Rattle.plane_reader.proofs.PartLanes.{bits_given}
use Rattle.plane_reader.proofs.number_lanes.with_bits.Goals as goal

pub returns : goal.returns
returns c =
    let here = from_zero c.args.start (c.part-here.ensures.if_known (bit c.args.mask) 0 64 (shows_own c.args.mask 64 c.ranges.mask.fits) c.requires.within) in
    bits_given c.args.sizes c.part-here.result c.args.mask c.args.start c.args.place c.fits-sizes.0 c.requires.low here.at
