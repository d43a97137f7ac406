use Rattle.plane_reader.proofs.PartLanes.{numbers_are, halves_few}
use Rattle.plane_reader.proofs.number_lanes.signed.Goals as goal

pub returns : goal.returns
returns c =
    numbers_are c.args.low c.args.high c.args.minus c.fits-low.0 c.fits-high.0
    (halves_few c.args.low c.fits-low.0 c.fits-low.1) c.requires.small c.lanes_of-sign.result c.lanes_of-sign.ensures
