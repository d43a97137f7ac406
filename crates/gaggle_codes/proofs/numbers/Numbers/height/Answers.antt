use Rattle.std.proofs.Common.{◌≤◌, ◌^◌, length, arith, rules, pow_mono}
use mir.Val.{SFits}
use mir.Syntax.{w32}
use Rattle.number_defs.specs.Ranges.{shifted_height}
use Rattle.number_defs.specs.Cells.{cell_at}
use Rattle.number_defs.proofs.Heights.{height_below}
use Rattle.number_defs.proofs.CellPlaces.{made_length, made_at, place_within}
use Rattle.gaggle_codes.proofs.Sums.{height_sum}
use Rattle.gaggle_codes.proofs.numbers.Numbers.height.Goals as goal
use Rattle.std.proofs.lemmas.Grind.{common_steps}

pub bounds-self-place : goal.bounds-self-place
bounds-self-place c = grind (arith, common_steps, made_length, place_within)

pub overflow_mul-number : goal.overflow_mul-number
overflow_mul-number c = grind (arith, common_steps, made_length, place_within)

pub offset_bounds-self-place : goal.offset_bounds-self-place
offset_bounds-self-place c = grind (arith, common_steps, made_length, place_within)

pub overflow_cast-result : goal.overflow_cast-result
overflow_cast-result c =
    let s = c.args.self.now in
    let z = cell_at s.stride s.cells.now c.args.place in
    let n = made_length (shifted_height s.range.signed s.range.bits s.shift) s.stride s.cells.now in
    let fits : SFits w32 z = search rules in
    let h = s.in_range.at c.args.place (place_within (length s.cells.now) s.stride c.args.place s.strided (omega (arith, n))) in
    let most : 2 ^ s.range.bits ≤ 1024 = pow_mono s.high in
    let below = height_below s.range.signed s.range.bits _ h in
    rw (height_sum s.range.signed s.range.bits s.shift c.negatives.result z c.from.result fits h s.high c.from.ensures c.negatives.ensures.is)
    (tt, omega (arith, below, most))

pub returns : goal.returns
returns c = grind (arith, common_steps, made_length, place_within, height_sum, made_at, height_below)
