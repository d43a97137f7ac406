use Rattle.std.proofs.Common.{◌^◌, arith, w32}
use Rattle.std.proofs.lemmas.Int.{ints}
use Rattle.wave_defs.proofs.Floors.{predicted-within}
use Rattle.wave_defs.proofs.Shifts.{shifted}
use Rattle.lift_lanes.proofs.samples.predict.Goals as goal
use Rattle.wave_defs.proofs.Equations.{predicted-is}

pub returns-clause-value : goal.returns-clause-value
returns-clause-value c = rw predicted-is (shifted w32 16 _ _ (omega (arith, ints)) (omega (arith, ints)))

pub returns-clause-small : goal.returns-clause-small
returns-clause-small c =
    rw (returns-clause-value c) (predicted-within (2 ^ 25) _ _ _ _ (omega arith) c.requires.in_a c.requires.in_b c.requires.in_c c.requires.in_d)
