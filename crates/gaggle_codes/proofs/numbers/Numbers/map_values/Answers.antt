use Rattle.std.proofs.Common.{◌≡◌, length, arith}
use Rattle.number_defs.specs.Gaggles.{value_at}
use Rattle.number_defs.proofs.CellPlaces.{made_length, count_within}
use Rattle.gaggle_codes.specs.Written.{heights_of}
use Rattle.gaggle_codes.proofs.Places.{by_places}
use Rattle.gaggle_codes.proofs.numbers.Numbers.map_values.Goals as goal
use Rattle.std.proofs.lemmas.Grind.{common_steps}

pub overflow_add-from : goal.overflow_add-from
overflow_add-from c = grind (arith, common_steps, made_length, count_within)

pub returns-clause-values : goal.returns-clause-values
returns-clause-values c =
    let s = c.args.self.now in
    let same : length c.loop-i.into ≡ length c.args.into.now = omega arith in
    rw (← same) (by_places (value_at s.range.bits (heights_of s)) c.args.from c.loop-i.into (λ k lt. c.loop-i.invariant.is k (omega arith)))
