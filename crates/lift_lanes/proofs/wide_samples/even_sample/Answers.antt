use Rattle.std.proofs.lemmas.Int.{ints, to_z-of_z}
use Rattle.std.proofs.Common.{arith}
use Rattle.lift_lanes.proofs.wide_samples.even_sample.Goals as goal

pub returns : goal.returns
returns c =
    let a = c.ranges.before in
    let b = c.ranges.after in
    let value = simp to_z-of_z at c.correct.ensures.value in
    omega (arith, ints, value)
