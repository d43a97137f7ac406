use Rattle.std.proofs.Common.{◌≡◌, ◌-ℤ◌, arith, w32, to_z, of_z}
use Rattle.std.proofs.lemmas.Int.{ints, to_z-of_z}
use Rattle.lift_lanes.proofs.samples.high_sample.Goals as goal

pub returns : goal.returns
returns c =
    let a = c.ranges.a in
    let b = c.ranges.b in
    let d = c.ranges.c in
    let e = c.ranges.d in
    let value = simp to_z-of_z at c.predict.ensures.value in
    let computed : to_z w32 (of_z w32 (to_z w32 (of_z w32 c.args.odd) -ℤ to_z w32 (of_z w32 c.predict.result))) ≡ (c.args.odd -ℤ c.predict.result) =
    omega (arith, ints) in
    cc
