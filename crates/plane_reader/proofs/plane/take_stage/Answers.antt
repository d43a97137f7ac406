use Rattle.std.proofs.Common.{◌≡◌, arith}
use Rattle.plane_reader.proofs.plane.take_stage.Goals as goal

pub returns-in_default-clause-stage : goal.returns-in_default-clause-stage
returns-in_default-clause-stage g c = λ numbers p above have.
    let e : c.args.number ≡ 4 = grind (arith, c.in_default, c.requires.some, c.requires.number) in
    rw e (c.take_gaggles-in_default.ensures.stage numbers p above have)
