use Rattle.std.proofs.Common.{rules, ◌≡◌, ◌+◌, ◌^◌, ◌<◌, ap, ◌∙◌, FitsSigned, w32, w64, get_or, pos, arith, slice_index}
use Rattle.std.proofs.lemmas.Int.{to_z-of_z}
use Rattle.base_122.specs.Weights.{band_place}
use Rattle.wave_defs.specs.Line.{floor_div}
use Rattle.base_122.proofs.ShiftLaws.{shift_low}
use Rattle.block_families.proofs.Placing.{place_within}
use Rattle.block_families.proofs.PutBack.{part_of, part_small, part_whole, puts_on, puts_one}
use Rattle.block_families.proofs.Squares.{top_is}
use Rattle.block_families.proofs.scattering.scatter_tops.Goals as goal

pub unweighted-number-requires : goal.unweighted-number-requires
unweighted-number-requires g c = rw c.shift.ensures (shift_low c.args.weights.now.shifts (band_place c.top_band-band.result) c.requires.ready.shifts)

pub set-requires-clause-within : goal.set-requires-clause-within
set-requires-clause-within g c =
    let i = c.loop-position.position in
    rw (c.loop-position.invariant.columns, top_is (band_place c.top_band-band.result) c.args.column i c.loop-position-test.true c.top_band-band.ensures)
    (place_within _ c.args.column i c.requires.ready.inside (omega (arith, c.loop-position-test.true)))

pub set-requires-clause-small : goal.set-requires-clause-small
set-requires-clause-small g c =
    let i = c.loop-position.position in
    let below : i < 64 = omega (arith, c.loop-position-test.true) in
    let fits : FitsSigned w64 c.unweighted-number.result = search rules in
    let read : FitsSigned w32 (get_or c.args.from.now i (pos 0)) = search rules in
    let number : c.unweighted-number.result ≡ floor_div (get_or c.args.from.now i (pos 0)) (2 ^ c.shift.result) =
    simp to_z-of_z at c.unweighted-number.ensures in
    let part = part_of c.args.from.now c.args.weights.now.shifts i c.shift.result c.unweighted-number.result c.requires.ready.parts below
    c.requires.ready.shifts
    (c.shift.ensures ∙ ap (slice_index c.args.weights.now.shifts) c.top_band-band.ensures) number in
    rw (to_z-of_z w64 c.unweighted-number.result fits) (part_small c.args.from.now c.args.weights.now.shifts i c.unweighted-number.result
    c.requires.ready.parts below part)

pub loop-position-preserved : goal.loop-position-preserved
loop-position-preserved g c =
    let i = c.loop-position.position in
    let invariant = c.loop-position.invariant in
    let set = c.set.ensures in
    let below : i < 64 = omega (arith, c.loop-position-test.true) in
    let fits : FitsSigned w64 c.unweighted-number.result = search rules in
    let read : FitsSigned w32 (get_or c.args.from.now i (pos 0)) = search rules in
    let number : c.unweighted-number.result ≡ floor_div (get_or c.args.from.now i (pos 0)) (2 ^ c.shift.result) =
    simp to_z-of_z at c.unweighted-number.ensures in
    let part = part_of c.args.from.now c.args.weights.now.shifts i c.shift.result c.unweighted-number.result c.requires.ready.parts below
    c.requires.ready.shifts
    (c.shift.ensures ∙ ap (slice_index c.args.weights.now.shifts) c.top_band-band.ensures) number in
    record {
      columns = set.columns ∙ invariant.columns;
      valid = set.valid ∙ invariant.valid;
      keeps = g.met.B.BandSink.keeps_on _ _ _ invariant.keeps set.keeps;
      puts = puts_on c.args.weights.now.shifts c.args.column c.args.from.now 0 i 1 i (i + 1) _ _ _ (omega arith) (omega arith)
          (omega (arith, c.loop-position-test.true)) invariant.puts
          (puts_one c.args.weights.now.shifts c.args.column c.args.from.now i _ c.unweighted-number.result _ _
          (top_is (band_place c.top_band-band.result) c.args.column i c.loop-position-test.true c.top_band-band.ensures)
          (part_whole c.args.from.now c.args.weights.now.shifts i c.unweighted-number.result c.requires.ready.parts below part)
          (set.value ∙ to_z-of_z w64 c.unweighted-number.result fits) set.others);
    }
