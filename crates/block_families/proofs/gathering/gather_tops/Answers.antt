use Rattle.std.proofs.Common.{◌≡◌, ◌<◌, ◌≤◌, ◌∙◌, ap, ℕ, ◌+◌, ◌/◌, ◌^◌, pos, ◌*ℤ◌, length, get_or, arith}
use Rattle.base_122.specs.Weights.{band_place}
use Rattle.block_families.specs.Gathering.{run_at}
use Rattle.block_families.proofs.Filling.{each_on, each_as}
use Rattle.base_122.proofs.ShiftLaws.{shift_low}
use Rattle.block_families.proofs.Squares.{top_at}
use Rattle.block_families.proofs.gathering.gather_tops.Goals as goal

pub put_tops-requires-clause-shift : goal.put_tops-requires-clause-shift
put_tops-requires-clause-shift g c =
    rw c.shift-shift.ensures (shift_low c.args.weights.now.shifts (band_place c.top_band-band.result) c.requires.ready.shifts)

pub put_tops-requires-clause-fits : goal.put_tops-requires-clause-fits
put_tops-requires-clause-fits g c k few =
    let ready = c.requires.ready in
    let i = c.loop-position.position in
    let value = top_at (g.B.BandSource.number c.args.bands.now) c.args.weights.now.shifts (g.B.BandSource.columns c.args.bands.now) (c.args.column + k) i
    (band_place c.top_band-band.result) c.shift-shift.result c.row-row.result.now c.loop-position-test.true (omega (
      arith,
      ready.inside,
      few,
      c.loop-position.invariant.whole,
    )) c.top_band-band.ensures c.shift-shift.ensures c.row-row.ensures.numbers in
    rw value (ready.fits k i (omega (arith, few, c.loop-position.invariant.whole)) (omega (arith, c.loop-position-test.true)))

pub loop-position-preserved : goal.loop-position-preserved
loop-position-preserved g c =
    let ready = c.requires.ready in
    let i = c.loop-position.position in
    let n = length c.args.into.now / 64 in
    let so_far = c.loop-position.invariant in
    let same : length c.loop-position.into / 64 ≡ n = ap (λ m. m / 64) so_far.whole in
    let value = run_at (g.B.BandSource.number c.args.bands.now) c.args.weights.now.shifts c.args.column in
    let there = λ (k j : ℕ) (few : k < length c.loop-position.into / 64) (h : i ≤ j) (l : j < i + 1).
    let here : i ≡ j = omega (arith, h, l) in
    top_at (g.B.BandSource.number c.args.bands.now) c.args.weights.now.shifts (g.B.BandSource.columns c.args.bands.now) (c.args.column + k) i
    (band_place c.top_band-band.result) c.shift-shift.result c.row-row.result.now c.loop-position-test.true (omega (arith, ready.inside, few, same))
    c.top_band-band.ensures c.shift-shift.ensures c.row-row.ensures.numbers ∙ ap (value k) here in
    each_on value 0 i 1 i (i + 1) n _ _ c.loop-position.into _ (omega arith) (omega arith) (omega (arith, c.loop-position-test.true)) same so_far
    (each_as value (λ k j. get_or c.row-row.result.now (c.args.column + k) (pos 0) *ℤ pos (2 ^ c.shift-shift.result)) i 1 _ c.loop-position.into _
    c.put_tops.ensures there)
