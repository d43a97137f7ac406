use Rattle.std.proofs.Common.{◌≡◌, ◌≤◌, ◌+◌, ◌*◌, ◌/◌, length, refl, ap, arith}
use Rattle.base_122.specs.Weights.{band_place}
use Rattle.block_families.specs.Gathering.{run_at}
use Rattle.block_families.proofs.Filling.{each_on}
use Rattle.block_families.proofs.Squares.{grandchildren_at, side_four, squares_fit, squares_fill}
use Rattle.block_families.proofs.gathering.put_grandchildren.Goals as goal

pub put_squares-requires-clause-fits : goal.put_squares-requires-clause-fits
put_squares-requires-clause-fits g c =
    let ready = c.requires.ready in
    let half = c.args.half in
    let band = band_place c.band_of-band.result in
    let row = c.from-row.result in
    let side = side_four band (half / 2) c.band_of-band.ensures in
    squares_fit (g.B.BandSource.number c.args.bands.now) c.args.weights.now.shifts (g.B.BandSource.columns c.args.bands.now) c.args.column
    (length c.args.into.now / 64) band row (row + 1) 0 c.shift-shift.result (4 * c.args.column) 4 c.row-upper.result.now c.row-lower.result.now ready.inside
    (rw side (omega arith)) (rw side refl) (omega arith) c.shift-shift.ensures (omega arith) c.row-upper.ensures.numbers c.row-lower.ensures.numbers
    (16 + 8 * half) (omega (arith, c.requires.half)) (grandchildren_at band half 0 row (16 + 8 * half) c.band_of-band.ensures c.requires.half (omega arith)
    c.from-row.ensures (omega arith)) ready.fits

pub put_squares-requires-2-clause-fits : goal.put_squares-requires-2-clause-fits
put_squares-requires-2-clause-fits g c k i few low =
    let ready = c.requires.ready in
    let half = c.args.half in
    let band = band_place c.band_of-band.result in
    let row = c.from-row.result in
    let side = side_four band (half / 2) c.band_of-band.ensures in
    let same : length c.put_squares.new.into / 64 ≡ length c.args.into.now / 64 = ap (λ m. m / 64) c.put_squares.ensures.whole in
    squares_fit (g.B.BandSource.number c.args.bands.now) c.args.weights.now.shifts (g.B.BandSource.columns c.args.bands.now) c.args.column
    (length c.args.into.now / 64) band row (row + 1) 2 c.shift-shift.result (4 * c.args.column + 2) 4 c.row-upper.result.now c.row-lower.result.now
    ready.inside
    (rw side (omega arith)) (rw side refl) (omega arith) c.shift-shift.ensures (omega arith) c.row-upper.ensures.numbers c.row-lower.ensures.numbers
    (16 + 8 * half + 4) (omega (arith, c.requires.half)) (grandchildren_at band half 1 row (16 + 8 * half + 4) c.band_of-band.ensures c.requires.half
    (omega arith) c.from-row.ensures (omega arith)) ready.fits k i (omega (arith, few, same)) low

pub returns : goal.returns
returns g c =
    let ready = c.requires.ready in
    let half = c.args.half in
    let band = band_place c.band_of-band.result in
    let row = c.from-row.result in
    let side = side_four band (half / 2) c.band_of-band.ensures in
    let n = length c.args.into.now / 64 in
    let same : length c.put_squares.new.into / 64 ≡ n = ap (λ m. m / 64) c.put_squares.ensures.whole in
    let inside : c.args.column + length c.put_squares.new.into / 64 ≤ g.B.BandSource.columns c.args.bands.now = omega (arith, ready.inside, same) in
    let first = squares_fill (g.B.BandSource.number c.args.bands.now) c.args.weights.now.shifts (g.B.BandSource.columns c.args.bands.now) c.args.column n
    band row (row + 1) 0 c.shift-shift.result (4 * c.args.column) 4 c.row-upper.result.now c.row-lower.result.now ready.inside
    (rw side (omega arith)) (rw side refl) (omega arith) c.shift-shift.ensures (omega arith) c.row-upper.ensures.numbers c.row-lower.ensures.numbers
    (16 + 8 * half) _ _ (grandchildren_at band half 0 row (16 + 8 * half) c.band_of-band.ensures c.requires.half (omega arith) c.from-row.ensures
    (omega arith)) c.put_squares.ensures in
    let second = squares_fill (g.B.BandSource.number c.args.bands.now) c.args.weights.now.shifts (g.B.BandSource.columns c.args.bands.now) c.args.column
    (length c.put_squares.new.into / 64) band row (row + 1) 2 c.shift-shift.result (4 * c.args.column + 2) 4 c.row-upper.result.now
    c.row-lower.result.now inside
    (rw side (omega arith)) (rw side refl) (omega arith) c.shift-shift.ensures (omega arith) c.row-upper.ensures.numbers c.row-lower.ensures.numbers
    (16 + 8 * half + 4) _ _ (grandchildren_at band half 1 row (16 + 8 * half + 4) c.band_of-band.ensures c.requires.half (omega arith) c.from-row.ensures
    (omega arith)) c.put_squares-2.ensures in
    each_on (run_at (g.B.BandSource.number c.args.bands.now) c.args.weights.now.shifts c.args.column) (16 + 8 * half) 4 4 (16 + 8 * half + 4) 8 n _ _ _ _
    (omega arith) (omega arith) (omega (arith, c.requires.half)) same first second
