use Rattle.std.proofs.Common.{arith}
use Rattle.item_defs.specs.Bits.{bit}
use Rattle.block_masks.proofs.Viewing.{shows_own, from_zero}
use Rattle.plane_reader.proofs.PartLanes.{part_put, halves_few}
use Rattle.plane_reader.proofs.number_lanes.put_part.Goals as goal

pub returns : goal.returns
returns c =
    let if_known = from_zero c.args.start (c.part.ensures.if_known (bit c.args.minus) 0 64 (shows_own c.args.minus 64 c.ranges.minus.fits) c.requires.within) in
    part_put c.args.low c.args.high c.part.result c.fits-low.0 c.fits-high.0
    (halves_few c.args.low c.fits-low.0 c.fits-low.1) c.requires.small c.args.start c.args.minus c.args.block.now c.signed-numbers.result
    (omega arith) if_known c.signed-numbers.ensures
