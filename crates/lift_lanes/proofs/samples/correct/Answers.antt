use Rattle.std.proofs.Common.{◌^◌, arith, w32}
use Rattle.std.proofs.lemmas.Int.{ints}
use Rattle.wave_defs.proofs.Floors.{correction-within}
use Rattle.wave_defs.proofs.Shifts.{shifted}
use Rattle.lift_lanes.proofs.samples.correct.Goals as goal
use Rattle.wave_defs.proofs.Equations.{correction-is}

pub returns-clause-value : goal.returns-clause-value
returns-clause-value c = rw correction-is (shifted w32 4 _ _ (omega (arith, ints)) (omega (arith, ints)))

pub returns-clause-small : goal.returns-clause-small
returns-clause-small c =
    rw (returns-clause-value c) (correction-within (2 ^ 26) _ _ (omega arith) c.requires.in_before c.requires.in_after)
