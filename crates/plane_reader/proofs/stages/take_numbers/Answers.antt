use Rattle.std.proofs.Common.{◌≡◌, ◌==◌, false, arith}
use Rattle.std.proofs.lemmas.Bool.Decides.{nat_tests}
use Rattle.plane_reader.proofs.stages.take_numbers.Goals as goal

pub returns-in-1-clause-numbers : goal.returns-in-1-clause-numbers
returns-in-1-clause-numbers g c = λ block earlier s is above families now. rw c.in-1.is (c.take_parents.ensures.parents block s is above)

pub returns-in-3-clause-numbers : goal.returns-in-3-clause-numbers
returns-in-3-clause-numbers g c = λ block earlier s is above families now. rw c.in-3.is
    (c.take_grandchildren.ensures.grandchildren block earlier s is above families now)

pub returns-in_default-clause-numbers : goal.returns-in_default-clause-numbers
returns-in_default-clause-numbers g c = λ block earlier s is above families now.
    let one : (g.row.STAGE == 1) ≡ false = grind (arith, nat_tests, c.in_default) in
    let three : (g.row.STAGE == 3) ≡ false = grind (arith, nat_tests, c.in_default) in
    rw (one, three) (c.take_refinement.ensures.refinement block s is above)
