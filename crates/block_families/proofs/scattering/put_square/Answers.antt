use Rattle.std.proofs.Common.{◌≡◌, ℕ, ◌+◌, ◌*◌, ◌<◌, pos, ◌*ℤ◌, get_or, ap, ◌∙◌, arith, slice_index}
use Rattle.base_122.specs.Weights.{band_place}
use Rattle.wave_defs.specs.Blocks.{Place, weight_at}
use Rattle.block_families.specs.Places.{named}
use Rattle.base_122.proofs.ShiftLaws.{shift_low}
use Rattle.block_families.proofs.PutBack.{part_of, part_small, part_whole, square_rows, square_inside, puts_square}
use Rattle.block_families.proofs.scattering.put_square.Goals as goal

pub unweighted_square-numbers-requires-clause-shift : goal.unweighted_square-numbers-requires-clause-shift
unweighted_square-numbers-requires-clause-shift g c =
    rw c.shift-shift.ensures (shift_low c.args.weights.now.shifts (band_place c.square_of-place.result.band) c.requires.ready.shifts)

pub set_square-requires-clause-rows : goal.set_square-requires-clause-rows
set_square-requires-clause-rows g c =
    square_rows _ c.args.column (4 + 4 * c.args.square) (named c.square_of-place.result) c.requires.ready.inside (omega (arith, c.requires.square))
    (c.square_of-place.ensures 3 (omega arith))

pub set_square-requires-clause-inside : goal.set_square-requires-clause-inside
set_square-requires-clause-inside g c =
    square_inside _ c.args.column (4 + 4 * c.args.square) (named c.square_of-place.result) c.requires.ready.inside (omega (arith, c.requires.square))
    (c.square_of-place.ensures 3 (omega arith))

pub set_square-requires-clause-small : goal.set_square-requires-clause-small
set_square-requires-clause-small g c = λ k h.
    let i = 4 + 4 * c.args.square + k in
    let below : i < 64 = omega (arith, c.requires.square, h) in
    let shift = c.shift-shift.ensures ∙ ap (λ (p : Place). slice_index c.args.weights.now.shifts p.band) (c.square_of-place.ensures k h) in
    part_small c.args.from.now c.args.weights.now.shifts i _ c.requires.ready.parts below
    (part_of c.args.from.now c.args.weights.now.shifts i c.shift-shift.result _ c.requires.ready.parts below c.requires.ready.shifts shift
    (c.unweighted_square-numbers.ensures k h))

pub returns-clause-scattered : goal.returns-clause-scattered
returns-clause-scattered g c =
    let shifts = c.args.weights.now.shifts in
    let whole : (k : ℕ) → k < 4 → get_or c.unweighted_square-numbers.result k (pos 0) *ℤ weight_at shifts (4 + 4 * c.args.square + k)
    ≡ get_or c.args.from.now (4 + 4 * c.args.square + k) (pos 0) =
    λ k h.
    let i = 4 + 4 * c.args.square + k in
    let below : i < 64 = omega (arith, c.requires.square, h) in
    let shift = c.shift-shift.ensures ∙ ap (λ (p : Place). slice_index shifts p.band) (c.square_of-place.ensures k h) in
    part_whole c.args.from.now shifts i _ c.requires.ready.parts below
    (part_of c.args.from.now shifts i c.shift-shift.result _ c.requires.ready.parts below c.requires.ready.shifts shift
    (c.unweighted_square-numbers.ensures k h)) in
    puts_square shifts c.args.column c.args.from.now c.unweighted_square-numbers.result (4 + 4 * c.args.square) (named c.square_of-place.result) _ _
    c.square_of-place.ensures whole c.set_square.ensures.values
