use Rattle.std.proofs.Common.{◌+◌, ◌*◌, ◌/◌, length, refl, arith}
use Rattle.base_122.specs.Weights.{band_place}
use Rattle.block_families.proofs.Squares.{children_at, side_two, squares_fit, squares_fill}
use Rattle.block_families.proofs.gathering.put_children.Goals as goal

pub put_squares-requires-clause-fits : goal.put_squares-requires-clause-fits
put_squares-requires-clause-fits g c =
    let ready = c.requires.ready in
    let band = band_place c.band_of-band.result in
    let side = side_two band c.args.family c.band_of-band.ensures in
    squares_fit (g.B.BandSource.number c.args.bands.now) c.args.weights.now.shifts (g.B.BandSource.columns c.args.bands.now) c.args.column
    (length c.args.into.now / 64) band 0 1 0 c.shift.result (2 * c.args.column) 2 c.row-upper.result.now c.row-lower.result.now ready.inside
    (rw side (omega arith)) (rw side refl) (omega arith) c.shift.ensures (omega arith) c.row-upper.ensures.numbers c.row-lower.ensures.numbers
    (4 + 4 * c.args.family) (omega (arith, c.requires.family)) (children_at band c.args.family (4 + 4 * c.args.family) c.band_of-band.ensures
    c.requires.family (omega arith)) ready.fits

pub returns : goal.returns
returns g c =
    let ready = c.requires.ready in
    let band = band_place c.band_of-band.result in
    let side = side_two band c.args.family c.band_of-band.ensures in
    squares_fill (g.B.BandSource.number c.args.bands.now) c.args.weights.now.shifts (g.B.BandSource.columns c.args.bands.now) c.args.column
    (length c.args.into.now / 64) band 0 1 0 c.shift.result (2 * c.args.column) 2 c.row-upper.result.now c.row-lower.result.now ready.inside
    (rw side (omega arith)) (rw side refl) (omega arith) c.shift.ensures (omega arith) c.row-upper.ensures.numbers c.row-lower.ensures.numbers
    (4 + 4 * c.args.family) _ _ (children_at band c.args.family (4 + 4 * c.args.family) c.band_of-band.ensures c.requires.family (omega arith))
    c.put_squares.ensures
